use Rattle.std.proofs.Common.{◌≡◌, map, take}
use Rattle.mc_inst_table.specs.Plain.{plain_inst}
use Rattle.mc_inst_table.specs.code.Links.{links}
use Rattle.mc_inst_table.proofs.links.links_of.Given as goal

abbrev pub invariant-loop-body : goal.invariant-loop-body
invariant-loop-body l = l.rows.items ≡ map (λ i. links (plain_inst i)) (take l.body-index l.bodies)
