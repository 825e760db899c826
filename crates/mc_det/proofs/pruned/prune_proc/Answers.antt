use Rattle.std.proofs.Common.{set, ap, ◌∙◌, subst, arith}
use Rattle.mc_model.specs.declared.sched.Proc.{Proc}
use Rattle.mc_procs.specs.Procedures.{PlainProcs}
use Rattle.mc_det.specs.PrunedProcedures.{IsPruned}
use Rattle.mc_det.specs.code.Places.{HasNoGoals}
use Rattle.mc_det.proofs.Placing.{of_its_pred, one_fits, same_count, same_pred, fits_meanwhile, comes_back}
use Rattle.mc_det.proofs.PrunedElsewhere.{declared_stays, pruned_elsewhere}
use Rattle.mc_det.proofs.Replacing.{pruned_fits, made_pruned}
use Rattle.mc_det.proofs.pruned.prune_proc.Goals as goal

pub pruned-requires : goal.pruned-requires
pruned-requires c =
    let q : PlainProcs = c.args.procs.now in
    let p : Proc = c.in_ok-taken.taken in
    fits_meanwhile HasNoGoals q c.taken_out.new.procs c.args.k c.in_ok-taken.ensures.left p
    (one_fits q c.fit.ensures.all c.args.k c.requires p c.in_ok-taken.ensures.taken)

pub replace-requires : goal.replace-requires
replace-requires c =
    let q : PlainProcs = c.args.procs.now in
    let r : PlainProcs = c.taken_out.new.procs in
    let k = c.args.k in
    let p : Proc = c.in_ok-taken.taken in
    let x : Proc = c.in_ok-p.p in
    let left = c.in_ok-taken.ensures.left in
    let others = c.in_ok-p.ensures.others in
    record {
      there = omega (arith, c.requires, same_count HasNoGoals q r k left);
      pred = ap (λ (y : Proc). y.pred) others ∙ same_pred HasNoGoals q r k left p (of_its_pred q c.fit.ensures.all k c.requires p c.in_ok-taken.ensures.taken);
      fits =
          pruned_fits r p x (made_pruned r p x x.body others c.in_ok-p.ensures.body)
          (fits_meanwhile HasNoGoals q r k left p (one_fits q c.fit.ensures.all k c.requires p c.in_ok-taken.ensures.taken));
    }

pub returns : goal.returns
returns c =
    let q : PlainProcs = c.args.procs.now in
    let r : PlainProcs = c.taken_out.new.procs in
    let k = c.args.k in
    let p : Proc = c.in_ok-taken.taken in
    let x : Proc = c.in_ok-p.p in
    let left = c.in_ok-taken.ensures.left in
    let s : Proc = left.placed in
    let made : IsPruned r p x = made_pruned r p x x.body c.in_ok-p.ensures.others c.in_ok-p.ensures.body in
    comes_back HasNoGoals q r k left (IsPruned q) c.replace.new.self x p c.requires c.replace.ensures.new c.in_ok-taken.ensures.taken
    (pruned_elsewhere q (set q.added k s) p x (declared_stays q.added k s (ap (λ (y : Proc). y.declared) left.so.others)) (subst (λ (v : PlainProcs). IsPruned v p x) left.others made))
