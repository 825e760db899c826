use Rattle.std.proofs.Common.{◌<◌, length, get_or, set, sym, ap, ◌∙◌, subst, arith}
use Rattle.mc_model.specs.declared.sched.Proc.{Proc}
use Rattle.mc_procs.specs.Procedures.{PlainProcs, with_procs}
use Rattle.mc_det.specs.PrunedProcedures.{IsPruned}
use Rattle.mc_det.proofs.Placing.{same_count, each_placed, rest_stays}
use Rattle.mc_det.proofs.PrunedElsewhere.{AlikeDeclared, declared_in, declared_stays, pruned_elsewhere}
use Rattle.mc_det.proofs.pruned.prune_all.Goals as goal

pub loop-k-preserved : goal.loop-k-preserved
loop-k-preserved c =
    let q : PlainProcs = c.args.procs.now in
    let v : PlainProcs = c.loop-k.procs in
    let k = c.loop-k.k in
    let inv = c.loop-k.invariant in
    let o = c.in_ok-prune_proc.ensures in
    let x : Proc = o.placed in
    let lt : k < length q.added = omega (arith, c.loop-k-test.true, inv.end) in
    let so : IsPruned q (get_or q.added k x) x =
    subst (λ (p : Proc). IsPruned q p x) (inv.rest k x (omega arith))
    (pruned_elsewhere q v.added (get_or v.added k x) x inv.declared (subst (λ (w : PlainProcs). IsPruned w (get_or v.added k x) x) inv.others o.so)) in
    let stays : AlikeDeclared v.added (set v.added k x) = declared_stays v.added k x (ap (λ (p : Proc). p.declared) o.so.others) in
    record {
      end = inv.end;
      others =
          o.others
          ∙ ap (λ (w : PlainProcs). with_procs w (set v.added k x)) inv.others
          ∙ ap (with_procs q) (sym (ap (λ (w : PlainProcs). w.added) o.others));
      count = same_count (IsPruned v) v c.prune_proc.new.procs k o ∙ inv.count;
      declared = λ j. ap (λ (w : PlainProcs). declared_in w.added j) o.others ∙ stays j ∙ inv.declared j;
      each = λ j d b.
          subst (λ (w : PlainProcs). IsPruned q (get_or q.added j d) (get_or w.added j d)) (sym o.others)
          (each_placed (IsPruned q) q.added v.added k x inv.count lt so inv.each j d b);
      rest = λ j d le. ap (λ (w : PlainProcs). get_or w.added j d) o.others ∙ rest_stays q.added v.added k x inv.rest j d le;
    }

pub returns : goal.returns
returns c =
    let inv = c.loop-k.invariant in
    record {
      others = inv.others;
      count = inv.count;
      pruned = λ k d lt. inv.each k d (omega (arith, lt, inv.end, c.loop-k-test.false));
    }
