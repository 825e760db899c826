use Rattle.std.proofs.Common.{◌≡◌, false, take}
use Rattle.mc_det.specs.code.Testing.{stands_in}
use Rattle.mc_det.proofs.tested.stands_in.Given as goal

abbrev pub invariant-loop-y : goal.invariant-loop-y
invariant-loop-y l = stands_in (take l.y-index l.list) l.x ≡ false
