-- What comes of programs that are one as plain data is one answer.
use Rattle.std.proofs.Common.{◌≡◌, ℕ, Bool, List, length, Option, refl, sym, ap, ◌∙◌, subst}
use Rattle.std.specs.List.{find}
use Rattle.mc_program.specs.Programs.{Source}
use Rattle.mc_program.specs.declared.program.Program.{Program}
use Rattle.mc_model.specs.Lists.{from}
use Rattle.mc_model.specs.Outcomes.{fails}
use Rattle.mc_model.specs.declared.flat.Normal.{Normal}
use Rattle.mc_model.specs.declared.inst.Sig.{Sig}
use Rattle.mc_accepted.specs.DeterminismFaults.{is_main}
use Rattle.mc_accepted.specs.InstRules.{PlainInstDef}
use Rattle.mc_procs.specs.Procedures.{PlainProcs, insts_of, procedure_at}
use Rattle.mc_det.specs.Determinisms.{declared_procedure}
use Rattle.mc_det_rules.specs.Main.{main_number}
use Rattle.mc_analysis.specs.Rules.{AnalysisGives, break_no_rule}
use Rattle.mc_analysis.specs.declared.rules.AnalysisResult.{AnalysisResult}
use Rattle.mc_analysis.specs.declared.rules.AnalysisResult.TheVariants as R
use Rattle.laws_procedures.proofs.OfModes.{last_program}
use Rattle.laws_one_answer.specs.OneAnswer.{RunAlike, OneRuled, OneAnswer, OnePlainAnswer}
use Rattle.laws_one_answer.specs.OneWhole.{OneProgram}
use Rattle.laws_one_answer.specs.OneProgram.{over, ruled_over, OneComes}
use Rattle.laws_one_answer.proofs.SamePrograms.{one-value, one-after}

-- procedures are over the program that they come of
its-program : (Q : Program) (ds : List PlainInstDef) (sigs : List Sig) (goals : List Normal) (exported : List Bool) (runs : Bool) (q : PlainProcs) → AnalysisGives Q ds sigs goals exported runs (R.Procs q) → q.program ≡ Q
its-program Q ds sigs goals exported runs q (break_no_rule {ordered = o} came is none fit) = last_program Q ds sigs goals exported o q came is

module _ (P Q : Program) (one : OneProgram P Q) where
  main-of : (q : PlainProcs) → q.program ≡ Q → main_number (over P q) ≡ main_number q
  main-of q e =
      let f : Source → Option ℕ = λ S. find (λ k. is_main (record { world = record { source = S; outcome = λ op vs. fails }; count = length q.added; procs = procedure_at q.added; insts = insts_of q }) (declared_procedure q.added k)) (from 0 (length q.added)) in
      ap f (sym (one-after P Q q.program one (one-value Q q.program e)).source)

  run-alike : (q r : PlainProcs) → r.program ≡ Q → RunAlike q (over P r) → RunAlike q r
  run-alike q r e h =
      record {
        program = one-after q.program Q r.program (one-after q.program P Q h.program one) (one-value Q r.program e);
        main = h.main ∙ main-of r e;
        calls = h.calls;
        queries = h.queries;
      }

  one-ruled : (r s : AnalysisResult) → ((q : PlainProcs) → s ≡ R.Procs q → q.program ≡ Q) → OneRuled r (ruled_over P s) → OneRuled r s
  one-ruled (R.Procs q) (R.Procs t) is h = run-alike q t (is t refl) h
  one-ruled (R.Procs q) (R.Broken v) is h = h
  one-ruled (R.Broken v) (R.Procs q) is h = h
  one-ruled (R.Broken v) (R.Broken w) is h = h

pub one-plain-answer : OneComes → OneAnswer → OnePlainAnswer
one-plain-answer comes answer P Q ds es sigs modes goals others exported runs one same sigs-one normal apart met placed r s a b =
    let A : AnalysisResult → Type 0 = λ x. AnalysisGives Q es modes others exported runs x in
    one-ruled P Q one r s (λ q e. its-program Q es modes others exported runs q (subst A e b))
    (answer P ds es sigs modes goals exported runs sigs-one normal apart met placed r (ruled_over P s) a
    (comes P Q es modes goals others exported runs one same s b))
