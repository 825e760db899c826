use Rattle.std.proofs.Common.{◌≡◌, map, take}
use Rattle.mc_inst_table.specs.Plain.{plain_inst}
use Rattle.mc_inst_table.specs.code.Ends.{needs}
use Rattle.mc_inst_table.proofs.needs.needs_of.Given as goal

abbrev pub invariant-loop-body : goal.invariant-loop-body
invariant-loop-body l = l.all.items ≡ map (λ i. needs (plain_inst i)) (take l.body-index l.bodies)
