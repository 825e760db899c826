use Rattle.std.proofs.Common.{take}
use Rattle.mc_insts.specs.code.Lists.{SameElements}
use Rattle.mc_insts.proofs.merging.distinct.Given as goal

abbrev pub invariant-loop-inst : goal.invariant-loop-inst
invariant-loop-inst l = SameElements l.once.keys (take l.inst-index l.insts)
