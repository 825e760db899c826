use Rattle.std.proofs.Common.{◌≡◌, ◌∙◌, ◌<◌, ℕ, List, length, get_or, map, ap, sym, subst}
use Rattle.std.proofs.lemmas.List.{get_or-map, get_or_read}
use Rattle.mc_program.specs.Programs.{Predicate}
use Rattle.mc_program.specs.PlainPrograms.{plain_pred, no_pred, plain_program}
use Rattle.mc_program.specs.declared.program.Pred.{Pred}
use Rattle.mc_program.specs.declared.program.Program.{Program}
use Rattle.mc_model.specs.declared.inst.ModeDecl.{ModeDecl}
use Rattle.mc_mode_state.specs.Modes.{declared_mode}
use Rattle.mc_modes.specs.Signatures.{declared_in}
use Rattle.mc_modes.proofs.atoms.call.Goals as goal

builtin-of : (P Q : Program) (k : ℕ) (p : Pred) → Q ≡ P → k < length Q.preds → p ≡ get_or Q.preds k p → ((plain_program P).preds k).builtin ≡ p.builtin
builtin-of P Q k p same l e =
    subst (λ (R : Program). ((plain_program R).preds k).builtin ≡ p.builtin) same
    (ap (λ (d : Predicate). d.builtin) (get_or-map plain_pred Q.preds k p no_pred l ∙ ap plain_pred (sym e)))

pub returns-in-Some-clause-answer : goal.returns-in-Some-clause-answer
returns-in-Some-clause-answer c = λ O.
    let P = c.args.procs.now.program in
    let Q = c.program.result.now in
    let p : Pred = c.get.result.now in
    let l : c.args.pred < length Q.preds = subst (λ (R : Program). c.args.pred < length R.preds) (sym c.program.ensures) c.requires.pred in
    c.apply.ensures.answer (declared_in c.args.sigs.now) O
    (builtin-of P Q c.args.pred p c.program.ensures l (get_or_read Q.preds c.args.pred p l c.get.ensures p) ∙ c.in-Some.is)

pub returns-in-None-clause-answer : goal.returns-in-None-clause-answer
returns-in-None-clause-answer c = λ O.
    let P = c.args.procs.now.program in
    let Q = c.program.result.now in
    let p : Pred = c.get.result.now in
    let l : c.args.pred < length Q.preds = subst (λ (R : Program). c.args.pred < length R.preds) (sym c.program.ensures) c.requires.pred in
    c.call.ensures.answer (declared_in c.args.sigs.now) O
    (ap (λ (ms : List ModeDecl). map declared_mode ms) (sym c.modes_at.ensures))
    (builtin-of P Q c.args.pred p c.program.ensures l (get_or_read Q.preds c.args.pred p l c.get.ensures p) ∙ c.in-None.is)
