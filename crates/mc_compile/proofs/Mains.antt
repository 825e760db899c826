-- Where `main` is wanted, it is what is run.
use Rattle.std.proofs.Common.{◌≡◌, ℕ, Bool, true, [], Option, Some, None, Result, Ok, refl, sym, ap, ◌∙◌}
use Rattle.std.specs.Prelude.{is_some}
use Rattle.std.specs.Option.{option_map}
use Rattle.mc_source.specs.declared.det.Det.{Det}
use Rattle.mc_model.specs.Outcomes.{fails}
use Rattle.mc_accepted.specs.DeterminismFaults.{determinism_faults}
use Rattle.mc_insts.specs.Defining.{plain_definitions}
use Rattle.mc_procs.specs.Procedures.{PlainProcs}
use Rattle.mc_det_constraints.specs.Least.{assigned}
use Rattle.mc_det.specs.Determinisms.{declared_system}
use Rattle.mc_det.specs.MarkedProcedures.{determinisms_of}
use Rattle.mc_det_rules.specs.Main.{MainIsThere, main_number}
use Rattle.mc_analysis.specs.Rules.{AnalysisGives, FaultsAre, break_no_rule}
use Rattle.mc_analysis.specs.declared.rules.AnalysisResult.{AnalysisResult}
use Rattle.mc_analysis.specs.declared.rules.AnalysisResult.TheVariants as R
use Rattle.mc_compile.specs.declared.moded.Moded.{Moded}
use Rattle.mc_compile.specs.declared.executable.Goal.TheVariants as G
use Rattle.mc_compile.specs.Phases.{Refusal, went_on}
use Rattle.mc_compile.specs.Sources.{Sources}
use Rattle.mc_compile.specs.Ruling.{PlainExecutable, Procedures, executable, goal_of}
use Rattle.mc_compile.specs.Laws.{MainIsRun}
use Rattle.mc_compile.proofs.Once.{ok_same}

number_there : (o : Option ℕ) → is_some o ≡ true → (number : ℕ) × (o ≡ Some number)
number_there None e = cc
number_there (Some number) e = (number, refl)

-- procedures that break no rule have a `main`, where it is wanted
procs_there : MainIsThere → (runs : Bool) (procs : PlainProcs) → FaultsAre runs procs [] → runs ≡ true → is_some (main_number procs) ≡ true
procs_there there runs procs faults wants =
    let ds : ℕ → Det = assigned (determinisms_of procs) in
    there (λ op vs. fails) procs ds
    (sym (faults (λ op vs. fails) ∙ ap (λ (b : Bool). determinism_faults b (declared_system (λ op vs. fails) procs) ds) wants))

main_of : MainIsThere → (s : Sources) (moded : Moded) (e : PlainExecutable) → Procedures s moded (Ok e) → s.wants_main ≡ true → (number : ℕ) × (e.goal ≡ Some (G.Main number))
main_of there s moded e p wants = at p.ruled p.comes p.is
  where
    at : (ruled : AnalysisResult) → AnalysisGives moded.whole.program (plain_definitions moded.defs) moded.sigs.items moded.whole.goals.items moded.whole.exported.items s.wants_main ruled → ◌≡◌ {A = Result PlainExecutable Refusal} (Ok e) (executable s.wants_main moded ruled) → (number : ℕ) × (e.goal ≡ Some (G.Main number))
    at (R.Procs procs) (break_no_rule o d faults fit) is =
        let main = number_there (main_number procs) (procs_there there s.wants_main procs faults wants) in
        let made : PlainExecutable = record { procs = procs; goal = goal_of s.wants_main procs moded.query moded.whole.variables } in (
          main.0,
          ap (λ (x : PlainExecutable). x.goal) (ok_same e made is)
              ∙ ap (λ (b : Bool). goal_of b procs moded.query moded.whole.variables) wants
              ∙ ap (λ (o : Option ℕ). option_map G.Main o) main.1,
        )
    at (R.Broken list) comes is = cc

pub main_run : MainIsThere → MainIsRun
main_run there sources e (went_on r (went_on l (went_on t (went_on c (went_on i (went_on {b = moded} m p)))))) wants = main_of there sources moded e p wants
