use Rattle.std.proofs.Common.{◌≡◌, map, take}
use Rattle.mc_inst_table.specs.Plain.{plain_inst}
use Rattle.mc_inst_table.specs.code.Ends.{head_at}
use Rattle.mc_inst_table.specs.code.Passed.{passed}
use Rattle.mc_inst_table.proofs.rings.graph.Given as goal

abbrev pub invariant-loop-body : goal.invariant-loop-body
invariant-loop-body l =
    l.rows.items ≡ map (λ i. passed (head_at l.heads) (plain_inst i)) (take l.body-index l.bodies)
