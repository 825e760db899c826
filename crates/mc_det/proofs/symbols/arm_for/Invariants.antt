use Rattle.std.proofs.Common.{◌≡◌, false, take}
use Rattle.mc_det.specs.code.Symbols.{arm_for}
use Rattle.mc_det.proofs.symbols.arm_for.Given as goal

abbrev pub invariant-loop-arm : goal.invariant-loop-arm
invariant-loop-arm l = arm_for l.symbol (take l.arm-index l.arms) ≡ false
