use Rattle.std.proofs.Common.{◌≡◌, ◌<◌, ◌∙◌, ap, sym, length, true, false, refl, arith}
use Rattle.mc_model.specs.declared.sched.Proc.{Proc}
use Rattle.mc_procs.specs.Procedures.{source_of}
use Rattle.mc_det.specs.Determinisms.{declared_procedure}
use Rattle.mc_det_rules.specs.code.Entry.{main_by}
use Rattle.mc_det_rules.proofs.Entering.{all_ahead, next_ahead, found_ahead, none_ahead, declared_there}
use Rattle.mc_det_rules.proofs.entry.main_procedure.Goals as goal

pub loop-k-init : goal.loop-k-init
loop-k-init c =
    let q = c.args.procs.now in
    all_ahead (λ k. main_by (source_of q).preds (declared_procedure q.added k)) (length q.added) 0 refl

pub loop-k-preserved : goal.loop-k-preserved
loop-k-preserved c =
    let q = c.args.procs.now in
    let k = c.loop-k.k in
    let p : Proc = c.get.result.now in
    let lt : k < length q.added = omega (arith, c.loop-k-test.true, c.count-k-end.ensures) in
    let misses : main_by (source_of q).preds (declared_procedure q.added k) ≡ false =
    ap (main_by (source_of q).preds) (sym (declared_there q.added k p lt c.get.ensures)) ∙ sym c.is_main.ensures ∙ c.if-is_main.false in
    next_ahead (λ k. main_by (source_of q).preds (declared_procedure q.added k)) (length q.added) k misses c.loop-k.invariant

pub returns-then-is_main : goal.returns-then-is_main
returns-then-is_main c =
    let q = c.args.procs.now in
    let k = c.loop-k.k in
    let p : Proc = c.get.result.now in
    let lt : k < length q.added = omega (arith, c.loop-k-test.true, c.count-k-end.ensures) in
    let hits : main_by (source_of q).preds (declared_procedure q.added k) ≡ true =
    ap (main_by (source_of q).preds) (sym (declared_there q.added k p lt c.get.ensures)) ∙ sym c.is_main.ensures ∙ c.if-is_main.true in
    found_ahead (λ k. main_by (source_of q).preds (declared_procedure q.added k)) (length q.added) k lt hits c.loop-k.invariant

pub returns : goal.returns
returns c =
    let q = c.args.procs.now in
    none_ahead (λ k. main_by (source_of q).preds (declared_procedure q.added k)) (length q.added) c.loop-k.k (omega (arith, c.loop-k-test.false, c.count-k-end.ensures)) c.loop-k.invariant
