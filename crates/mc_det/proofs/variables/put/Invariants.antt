use Rattle.std.proofs.Common.{◌≡◌, ◌++◌, take}
use Rattle.mc_det.proofs.variables.put.Given as goal

abbrev pub invariant-loop-x : goal.invariant-loop-x
invariant-loop-x l = l.variables.items ≡ l.fn.variables.items ++ take l.x-index l.more
