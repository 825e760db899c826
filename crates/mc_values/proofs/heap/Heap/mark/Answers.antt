use Rattle.std.proofs.Common.{rules, ap, length}
use Rattle.mc_values.specs.Heap.{height, IsLive, IsBelow}
use Rattle.mc_values.proofs.CellLaws.{length-held_in}
use Rattle.mc_values.proofs.heap.Heap.mark.Goals as goal

pub returns-clause-height : goal.returns-clause-height
unfolding height
returns-clause-height c = let e = ap length c.self.view_is in let h = length-held_in c.self.inside.cells.items in search rules

pub returns-clause-below : goal.returns-clause-below
unfolding IsLive IsBelow
returns-clause-below c r live = let e = ap length c.self.view_is in let h = length-held_in c.self.inside.cells.items in search rules
