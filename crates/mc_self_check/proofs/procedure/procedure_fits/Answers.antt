use Rattle.std.proofs.lemmas.List.{get_or-map}
use Rattle.std.proofs.Common.{◌≡◌, ◌∙◌, ℕ, false, true, ◌<◌, length, sym, ap, subst, refl, get_or}
use Rattle.mc_program.specs.PlainPrograms.{plain_program, plain_pred, no_pred}
use Rattle.mc_program.specs.declared.program.Pred.{Pred}
use Rattle.mc_program.specs.declared.program.Program.{Program}
use Rattle.mc_model.specs.PlainGoals.{plain_flat, plain_proc}
use Rattle.mc_self_check.proofs.Assembling.{then_others, same_fits, numbers_of, predicate_of, it_fits, first_of, last_of}
use Rattle.mc_self_check.proofs.Distinct.{isnt}
use Rattle.mc_self_check.proofs.Tidying.{each_told}
use Rattle.mc_self_check.proofs.procedure.procedure_fits.Goals.{then-not-numbers_fit-via-then-not-numbers_fit, then-not-numbers_fit-via-else-not-numbers_fit+in_ok-fits_predicate+then-not-branch}
use Rattle.mc_self_check.proofs.procedure.procedure_fits.Goals as goal

-- the predicate of a number is what a program's row has there
pred_read : (P Q : Program) (k : ℕ) (d : Pred) → P ≡ Q → k < length Q.preds → d ≡ get_or P.preds k d → (plain_program Q).preds k ≡ plain_pred d
pred_read P Q k d same lt is =
    sym (ap (λ (x : Program). (plain_program x).preds k) same)
    ∙ get_or-map plain_pred P.preds k d no_pred (subst (λ (x : Program). k < length x.preds) (sym same) lt)
    ∙ ap plain_pred (sym is)

pub returns-then-not-numbers_fit-clause-fits : goal.returns-then-not-numbers_fit-clause-fits
returns-then-not-numbers_fit-clause-fits c =
    let q = c.args.procs.now in
    let p = plain_proc c.args.p.now in
    let there = pred_read c.program.result.now q.program c.args.p.now.pred c.get-pred.result.now c.program.ensures c.requires.pred c.get-pred.ensures in
    elim c.then-not-numbers_fit.branch [
      | then-not-numbers_fit-via-then-not-numbers_fit w ↦ isnt (λ fits.
          let t = c.numbers_fit.ensures.1 (numbers_of q p fits) in
          let x : false ≡ true = sym w.if-not-numbers_fit.true ∙ t in cc)
      | then-not-numbers_fit-via-else-not-numbers_fit+in_ok-fits_predicate+then-not-branch w ↦ isnt (λ fits.
          let t = w.in_ok-fits_predicate.ensures.1 (predicate_of q p (plain_pred c.get-pred.result.now) (plain_flat c.args.goal.now) there c.requires.goal fits) in
          let x : false ≡ true = sym w.if-not-branch.true ∙ t in cc)
    ]

pub returns-else-branch-clause-fits : goal.returns-else-branch-clause-fits
returns-else-branch-clause-fits c =
    let q = c.args.procs.now in
    let p = plain_proc c.args.p.now in
    let r = c.are_tidy.new.procs in
    let e = c.are_tidy.ensures in
    let first = each_told q q _ c.args.p.now.first _ c.args.p.now.var_types _ c.args.p.now.head c.in_ok-are_tidy.field-0 refl refl c.as_slice.ensures.items c.as_slice-types.ensures.items c.as_slice-head.ensures.items c.in_ok-are_tidy.ensures.tidy in (
      λ yes. absurd (let x : false ≡ true = sym c.if-branch.false ∙ yes in cc),
      λ fits. first.1 (first_of q p ((same_fits q r p e.others e.graph e.count).1 fits)),
    )

pub returns-in_ok-are_tidy-2-clause-fits : goal.returns-in_ok-are_tidy-2-clause-fits
returns-in_ok-are_tidy-2-clause-fits c =
    let q = c.args.procs.now in
    let p = plain_proc c.args.p.now in
    let d = plain_pred c.get-pred.result.now in
    let goal = plain_flat c.args.goal.now in
    let there = pred_read c.program.result.now q.program c.args.p.now.pred c.get-pred.result.now c.program.ensures c.requires.pred c.get-pred.ensures in
    let r = c.are_tidy.new.procs in
    let s = c.are_tidy-then-branch.new.procs in
    let e = c.are_tidy.ensures in
    let f = c.are_tidy-then-branch.ensures in
    let same = same_fits q s p (then_others q r s e.others f.others) (f.graph ∙ e.graph) (f.count ∙ e.count) in
    let first = each_told q q _ c.args.p.now.first _ c.args.p.now.var_types _ c.args.p.now.head c.in_ok-are_tidy.field-0 refl refl c.as_slice.ensures.items c.as_slice-types.ensures.items c.as_slice-head.ensures.items c.in_ok-are_tidy.ensures.tidy in
    let last = each_told q r _ c.args.p.now.last _ c.args.p.now.var_types _ c.args.p.now.head c.in_ok-are_tidy-2.field-0 e.others e.graph c.as_slice-then-branch.ensures.items c.as_slice-types.ensures.items c.as_slice-head.ensures.items c.in_ok-are_tidy-2.ensures.tidy in (
      λ yes. same.0 (it_fits q p d goal there c.requires.goal
          (c.numbers_fit.ensures.0 c.if-not-numbers_fit.false) (c.in_ok-fits_predicate.ensures.0 c.if-not-branch.false)
          (first.0 c.if-branch.true) (last.0 yes)),
      λ fits. last.1 (last_of q p (same.1 fits)),
    )
