use Rattle.std.proofs.Common.{◌≡◌, set, ap, ◌∙◌, subst, arith}
use Rattle.mc_model.specs.declared.sched.Proc.{Proc}
use Rattle.mc_procs.specs.Procedures.{PlainProcs}
use Rattle.mc_det_constraints.specs.Least.{assigned}
use Rattle.mc_det.specs.MarkedProcedures.{IsMarked}
use Rattle.mc_det.specs.code.Places.{HasNoGoals}
use Rattle.mc_det.proofs.Depending.{marked_elsewhere}
use Rattle.mc_det.proofs.Placing.{of_its_pred, one_fits, same_count, same_pred, fits_meanwhile, comes_back}
use Rattle.mc_det.proofs.Replacing.{marked_fits, made_marked}
use Rattle.mc_det.proofs.procedures.mark_proc.Goals as goal

pub marked-requires : goal.marked-requires
marked-requires c =
    let q : PlainProcs = c.args.procs.now in
    let p : Proc = c.in_ok-taken.taken in
    fits_meanwhile HasNoGoals q c.taken_out.new.procs c.args.k c.in_ok-taken.ensures.left p
    (one_fits q c.fit.ensures.all c.args.k c.requires p c.in_ok-taken.ensures.taken)

pub replace-requires : goal.replace-requires
replace-requires c =
    let q : PlainProcs = c.args.procs.now in
    let r : PlainProcs = c.taken_out.new.procs in
    let k = c.args.k in
    let p : Proc = c.in_ok-taken.taken in
    let x : Proc = record c.in_ok-p.p { det = c.assigned-p.result } in
    let left = c.in_ok-taken.ensures.left in
    let others = c.in_ok-p.ensures.others in
    record {
      there = omega (arith, c.requires, same_count HasNoGoals q r k left);
      pred = ap (λ (y : Proc). y.pred) others ∙ same_pred HasNoGoals q r k left p (of_its_pred q c.fit.ensures.all k c.requires p c.in_ok-taken.ensures.taken);
      fits =
          marked_fits r c.args.dets.now p x
          (made_marked r c.args.dets.now p x c.in_ok-p.p.body x.det (ap (λ (y : Proc). record y { det = x.det }) others) c.in_ok-p.ensures.body)
          (fits_meanwhile HasNoGoals q r k left p (one_fits q c.fit.ensures.all k c.requires p c.in_ok-taken.ensures.taken));
    }

pub returns : goal.returns
returns c =
    let q : PlainProcs = c.args.procs.now in
    let r : PlainProcs = c.taken_out.new.procs in
    let ds = c.args.dets.now in
    let k = c.args.k in
    let p : Proc = c.in_ok-taken.taken in
    let x : Proc = record c.in_ok-p.p { det = c.assigned-p.result } in
    let left = c.in_ok-taken.ensures.left in
    let made : IsMarked r ds p x =
    made_marked r ds p x c.in_ok-p.p.body x.det (ap (λ (y : Proc). record y { det = x.det }) c.in_ok-p.ensures.others) c.in_ok-p.ensures.body in
    comes_back HasNoGoals q r k left (λ before after. IsMarked q ds before after × (after.det ≡ assigned ds k)) c.replace.new.self x p c.requires c.replace.ensures.new c.in_ok-taken.ensures.taken
    (marked_elsewhere q (set q.added k left.placed) ds p x (subst (λ (v : PlainProcs). IsMarked v ds p x) left.others made), c.assigned-p.ensures)
