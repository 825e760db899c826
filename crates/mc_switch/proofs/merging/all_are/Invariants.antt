use Rattle.std.proofs.Common.{◌≡◌, true, take}
use Rattle.mc_switch.specs.Kept.{all_are}
use Rattle.mc_switch.proofs.merging.all_are.Given as goal

abbrev pub invariant-loop-inst : goal.invariant-loop-inst
invariant-loop-inst l = all_are l.i (take l.inst-index l.insts) ≡ true
