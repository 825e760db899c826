-- The procedures of a program that breaks no rule are good: no answer of a run is wrong or missing,
-- and determinisms are kept. (Mercury Language Reference Manual: Semantics; Modes; Determinism.)
use Rattle.std.specs.Prelude.{◌<◌, ◌^◌, ℕ, Bool, List, length}
use Rattle.mc_program.specs.PlainPrograms.{plain_program}
use Rattle.mc_program.specs.Programs.{TypeTerm}
use Rattle.mc_program.specs.declared.program.Program.{Program}
use Rattle.mc_model.specs.Builtins.{outcome}
use Rattle.mc_model.specs.Good.{System, GoodProcedures, GoodQuery}
use Rattle.mc_model.specs.Worlds.{library_of}
use Rattle.mc_model.specs.declared.flat.Normal.{Normal}
use Rattle.mc_model.specs.declared.inst.Sig.{Sig}
use Rattle.mc_accepted.specs.InstRules.{PlainInstDef}
use Rattle.laws_sound.specs.Soundness.{NoInputs}
use Rattle.laws_order.specs.NormalScopes.{EachNamedApart}
use Rattle.laws_order.specs.SomeTest.{TypesMet}
use Rattle.mc_procs.specs.Procedures.{PlainProcs, as_system}
use Rattle.mc_accepted.specs.NormalGoals.{HasNormalGoals}
use Rattle.mc_analysis.specs.Rules.{AnalysisGives}
use Rattle.mc_analysis.specs.declared.rules.AnalysisResult.TheVariants as R

-- each run of each procedure is good, and each run of one that has no inputs is good as a query's
pub record TrueProcedures (S : System) : Type 0 where
  pub procedures : GoodProcedures S
  pub queries :
      (k : ℕ) → k < S.count → NoInputs (S.procs k).first → (n h : ℕ) → GoodQuery S n h (S.procs k)

-- So are the procedures that come where no rule is broken, over any input of fewer than 2 ^ 64
-- bytes, where the goals are those of the predicates, the quantifiers of clauses name variables of
-- their own, and below each type there are finitely many, as where type definitions break no rule.
abbrev pub TruthOfRules : Type 0
TruthOfRules =
    (P : Program) (defs : List PlainInstDef) (sigs : List Sig) (goals : List Normal)
    (exported : List Bool) (runs : Bool) (last : PlainProcs)
    → HasNormalGoals P goals
    → ((p : ℕ) → p < length P.preds → EachNamedApart ((plain_program P).preds p).clauses)
    → ((t : TypeTerm) → TypesMet (plain_program P) t)
    → AnalysisGives P defs sigs goals exported runs (R.Procs last)
    → (input : List ℕ) → length input < 2 ^ 64
    → TrueProcedures (as_system (outcome (library_of last.program) input) last)
