use Rattle.std.proofs.Common.{◌≡◌, false, take}
use Rattle.std.specs.List.{list_any}
use Rattle.mc_det_rules.specs.code.Calls.{binds}
use Rattle.mc_det_rules.proofs.binding.binds_some.Given as goal

abbrev pub invariant-loop-x : goal.invariant-loop-x
invariant-loop-x l = list_any (binds l.point l.changes) (take l.x-index l.variables) ≡ false
