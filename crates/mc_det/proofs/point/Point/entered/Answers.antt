use Rattle.std.proofs.Common.{◌-◌, length, get_or, ap, sym, ◌∙◌, arith}
use Rattle.std.proofs.lemmas.List.{length-set}
use Rattle.mc_det.proofs.Entering.{head_step, nothing_entered}
use Rattle.mc_det.proofs.point.Point.entered.Goals as goal

pub loop-n-init : goal.loop-n-init
loop-n-init c =
    record {
      head = c.fewer-n.ensures.first;
      first = c.fewer-n.ensures.second;
      count = c.in_ok-point.ensures.count;
      insts = c.in_ok-point.ensures.insts ∙ sym (nothing_entered c.args.head.now c.args.first.now c.fewer-n.result c.fewer-n.ensures.either);
    }

pub loop-n-preserved : goal.loop-n-preserved
loop-n-preserved c =
    let k = c.loop-n.n - 1 in
    record {
      head = let h = c.loop-n.invariant.head in omega arith;
      first = let h = c.loop-n.invariant.first in omega arith;
      count = ap length c.put.ensures ∙ length-set c.loop-n.point (get_or c.args.head.now k 0) (get_or c.args.first.now k 0) ∙ c.loop-n.invariant.count;
      insts = head_step c.args.variables c.args.head.now c.args.first.now k c.loop-n.n c.loop-n.point c.put.new.self (omega arith) c.loop-n.invariant.head c.loop-n.invariant.first c.loop-n.invariant.count c.requires c.loop-n.invariant.insts c.put.ensures;
    }
