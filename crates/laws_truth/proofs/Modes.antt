-- The procedure of a declared mode: it has the number that the mode tells, and the scopes of its predicate's
-- clauses are written out.
use Rattle.std.proofs.Common.{◌≡◌, ℕ, ◌<◌, List, length, get_or, Bool, None, sym, ap, ◌∙◌, subst}
use Rattle.mc_program.specs.PlainPrograms.{plain_program}
use Rattle.mc_program.specs.Values.{Val}
use Rattle.mc_program.specs.declared.builtin.Builtin.{Builtin}
use Rattle.mc_program.specs.declared.program.Program.{Program}
use Rattle.mc_model.specs.Good.{System}
use Rattle.mc_model.specs.Outcomes.{Outcome, fails}
use Rattle.mc_model.specs.declared.flat.Normal.{Normal}
use Rattle.mc_model.specs.declared.inst.Sig.{Sig}
use Rattle.mc_accepted.specs.Fits.{EachClauseHasScopes}
use Rattle.mc_accepted.specs.InstRules.{PlainInstDef}
use Rattle.mc_procs.specs.Fitting.{AllFit}
use Rattle.mc_procs.specs.Procedures.{PlainProcs, procedure_at}
use Rattle.mc_modes.specs.Signatures.{modes_at, mode_in}
use Rattle.mc_modes.specs.Numbering.{mode_ids}
use Rattle.mc_modes.specs.declared.modes.ModeId.{ModeId}
use Rattle.mc_modes.specs.declared.ordering.Orders.TheVariants as O
use Rattle.mc_det.specs.Determinisms.{declared_procedure}
use Rattle.mc_accepted.specs.NormalGoals.{HasNormalGoals}
use Rattle.mc_analysis.specs.Rules.{Determined, Ordered}
use Rattle.laws_procedures.proofs.Closed.{system_is_determined}
use Rattle.laws_procedures.proofs.Listed.{Stands}
use Rattle.laws_procedures.proofs.OfModes.{IsOfMode, last_as_many, last_program, mode_stands, no_id, number_is_place, of_mode, preds_as_many}

module _
    (P : Program) (defs : List PlainInstDef) (sigs : List Sig) (goals : List Normal) (exported : List Bool) (ordered last : PlainProcs)
    (came : Ordered P defs sigs goals exported O.All ordered) (is : Determined ordered last) (normal : HasNormalGoals P goals) (fit : AllFit last)
    (p j : ℕ) (there : p < length P.preds) (none : ((plain_program P).preds p).builtin ≡ None) (lt : j < length (modes_at sigs p)) where
  abbrev pub number : ℕ
  number = (mode_in sigs p j).proc

  abbrev id : ModeId
  id = record { pred = p; mode = j }

  s : Stands id (mode_ids P sigs)
  s = mode_stands P sigs p j there none lt

  abbrev number_at : Program → Type 0
  number_at Q = (mode_in sigs (get_or (mode_ids Q sigs) s.place no_id).pred (get_or (mode_ids Q sigs) s.place no_id).mode).proc ≡ s.place

  is_place : number ≡ s.place
  is_place =
      ap (λ (i : ModeId). (mode_in sigs i.pred i.mode).proc) (sym (s.is no_id))
      ∙ subst number_at came.begins.program
      (number_is_place came.first sigs s.place came.asked.numbers_told (preds_as_many P defs sigs goals exported ordered last came is)
      (subst (λ Q. s.place < length (mode_ids Q sigs)) (sym came.begins.program) s.there))

  pub is_there : number < length last.added
  is_there = subst (λ n. n < length last.added) (sym is_place) (subst (λ n. s.place < n) (sym (last_as_many P defs sigs goals exported ordered last came is)) s.there)

  of : IsOfMode sigs goals id (declared_procedure last.added number)
  of =
      subst (λ n. IsOfMode sigs goals id (declared_procedure last.added n)) (sym is_place)
      (subst (λ i. IsOfMode sigs goals i (declared_procedure last.added s.place)) (s.is no_id)
      (of_mode P defs sigs goals exported ordered last came is normal s.place s.there))

  abbrev fails_always : Builtin → List Val → Outcome
  fails_always op vs = fails

  pred : (procedure_at last.added number).pred ≡ p
  pred = ap (λ (S : System). (S.procs number).pred) (sym (system_is_determined fails_always last)) ∙ of.pred

  pub first : (procedure_at last.added number).first ≡ (mode_in sigs p j).first
  first = ap (λ (S : System). (S.procs number).first) (sym (system_is_determined fails_always last)) ∙ of.first

  pub has_scopes : EachClauseHasScopes ((plain_program P).preds p).clauses
  has_scopes =
      subst (λ n. EachClauseHasScopes ((plain_program P).preds n).clauses) pred
      (subst (λ Q. EachClauseHasScopes ((plain_program Q).preds (procedure_at last.added number).pred).clauses) (last_program P defs sigs goals exported ordered last came is)
      ((fit.each number is_there).fits fails_always).scopes)
