use Rattle.std.proofs.Common.{◌≡◌, ℕ, ◌+◌, ◌<◌, ◌≤◌, List, length, map, take, get_or, set, sym, ap, ◌∙◌, subst, arith}
use Rattle.std.proofs.lemmas.List.{take_all, take_more_set}
use Rattle.mc_source.specs.Determinism.{inferred, det}
use Rattle.mc_source.specs.declared.det.Det.{Det}
use Rattle.mc_model.specs.declared.sched.Proc.{Proc}
use Rattle.mc_procs.specs.Procedures.{PlainProcs, with_procs}
use Rattle.mc_det_constraints.specs.Least.{assigned}
use Rattle.mc_det.specs.MarkedProcedures.{IsMarked}
use Rattle.mc_det.proofs.Closing.{least_so}
use Rattle.mc_det.proofs.Depending.{inferred_so, marks_so, marked_elsewhere}
use Rattle.mc_det.proofs.Placing.{same_count, each_placed, rest_stays}
use Rattle.mc_det.proofs.Replacing.{dets_more}
use Rattle.mc_det.proofs.procedures.infer_all.Goals as goal

-- the determinisms of all
all_dets : (k : ℕ) (ps : List Proc) (ds : List Det) → length ps ≤ k → length ds ≤ k → map (λ (p : Proc). p.det) (take k ps) ≡ take k ds → map (λ (p : Proc). p.det) ps ≡ ds
all_dets k ps ds h i e = ap (map (λ (p : Proc). p.det)) (sym (take_all k ps h)) ∙ e ∙ take_all k ds i

pub loop-k-preserved : goal.loop-k-preserved
loop-k-preserved c =
    let q : PlainProcs = c.args.procs.now in
    let v : PlainProcs = c.loop-k.procs in
    let ds : List Det = c.in_ok-dets.dets.items in
    let k = c.loop-k.k in
    let inv = c.loop-k.invariant in
    let o = c.in_ok-mark_proc.ensures in
    let x : Proc = o.placed in
    let lt : k < length q.added = omega (arith, c.loop-k-test.true, inv.end) in
    let listed : c.as_slice.result.now ≡ ds = c.as_slice.ensures.value in
    let here : IsMarked v ds (get_or v.added k x) x = subst (λ (l : List Det). IsMarked v l (get_or v.added k x) x) listed o.so.0 in
    let so : IsMarked q ds (get_or q.added k x) x =
    subst (λ (p : Proc). IsMarked q ds p x) (inv.rest k x (omega arith))
    (marked_elsewhere q v.added ds (get_or v.added k x) x (subst (λ (w : PlainProcs). IsMarked w ds (get_or v.added k x) x) inv.others here)) in
    record {
      end = inv.end;
      others =
          o.others
          ∙ ap (λ (w : PlainProcs). with_procs w (set v.added k x)) inv.others
          ∙ ap (with_procs q) (sym (ap (λ (w : PlainProcs). w.added) o.others));
      count = same_count (λ before after. IsMarked v c.as_slice.result.now before after × (after.det ≡ assigned c.as_slice.result.now k)) v c.mark_proc.new.procs k o ∙ inv.count;
      dets =
          dets_more (take k v.added) (take (k + 1) c.mark_proc.new.procs.added) ds k x (inferred det)
          (ap (λ (w : PlainProcs). take (k + 1) w.added) o.others ∙ take_more_set v.added k x (omega (arith, inv.count, lt)))
          inv.dets (omega (arith, c.in_ok-dets.ensures.count, lt)) (o.so.1 ∙ ap (λ (l : List Det). get_or l k (inferred det)) listed);
      each = λ j d b.
          subst (λ (w : PlainProcs). IsMarked q ds (get_or q.added j d) (get_or w.added j d)) (sym o.others)
          (each_placed (IsMarked q ds) q.added v.added k x inv.count lt so inv.each j d b);
      rest = λ j d le. ap (λ (w : PlainProcs). get_or w.added j d) o.others ∙ rest_stays q.added v.added k x inv.rest j d le;
    }

pub returns-clause-inferred : goal.returns-clause-inferred
returns-clause-inferred c =
    let inv = c.loop-k.invariant in
    let end : c.loop-k.k ≡ length c.args.procs.now.added = omega (arith, inv.end, c.loop-k-test.false) in
    inferred_so c.args.procs.now c.loop-k.procs c.loop-k.procs.added c.in_ok-dets.dets.items inv.others inv.count (all_dets c.loop-k.k c.loop-k.procs.added c.in_ok-dets.dets.items (omega (arith, inv.count, end)) (omega (arith, c.in_ok-dets.ensures.count, end)) inv.dets) c.in_ok-dets.ensures.least (λ k d lt. inv.each k d (omega (arith, lt, end)))

pub returns-clause-marks : goal.returns-clause-marks
returns-clause-marks c =
    let inv = c.loop-k.invariant in
    let end : c.loop-k.k ≡ length c.args.procs.now.added = omega (arith, inv.end, c.loop-k-test.false) in
    marks_so c.args.procs.now c.loop-k.procs c.loop-k.procs.added c.in_ok-dets.dets.items inv.others inv.count (all_dets c.loop-k.k c.loop-k.procs.added c.in_ok-dets.dets.items (omega (arith, inv.count, end)) (omega (arith, c.in_ok-dets.ensures.count, end)) inv.dets) (λ k d lt. inv.each k d (omega (arith, lt, end)))

pub returns-clause-least : goal.returns-clause-least
returns-clause-least c =
    let inv = c.loop-k.invariant in
    let end : c.loop-k.k ≡ length c.args.procs.now.added = omega (arith, inv.end, c.loop-k-test.false) in
    least_so c.args.procs.now c.loop-k.procs c.loop-k.procs.added c.in_ok-dets.dets.items inv.others inv.count (all_dets c.loop-k.k c.loop-k.procs.added c.in_ok-dets.dets.items (omega (arith, inv.count, end)) (omega (arith, c.in_ok-dets.ensures.count, end)) inv.dets) c.in_ok-dets.ensures.least (λ k d lt. inv.each k d (omega (arith, lt, end)))
