use Rattle.std.proofs.Common.{◌≡◌, false, take}
use Rattle.mc_det_rules.specs.code.Io.{dead_at}
use Rattle.mc_det_rules.proofs.io.leaves_dead.Given as goal

abbrev pub invariant-loop-i : goal.invariant-loop-i
invariant-loop-i l = dead_at (take l.i-index l.insts) ≡ false
