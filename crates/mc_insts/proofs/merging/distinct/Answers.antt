use Rattle.std.proofs.Common.{List, ℕ, take, ◌+◌, sym, subst}
use Rattle.mc_insts.specs.code.Lists.{SameElements}
use Rattle.mc_insts.proofs.SameElements.{put_same}
use Rattle.mc_insts.proofs.merging.distinct.Goals as goal

pub loop-inst-preserved : goal.loop-inst-preserved
loop-inst-preserved c =
    subst (λ (ks : List ℕ). SameElements ks (take (c.loop-inst.inst-index + 1) c.args.insts.now)) (sym c.in_ok-insert.ensures.keys)
    (put_same c.loop-inst.once.keys c.args.insts.now c.loop-inst.inst-index c.loop-inst-test.true c.loop-inst.invariant)
