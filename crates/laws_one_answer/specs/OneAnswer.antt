-- What comes of a program in two ways is one: one list of broken rules, or procedures that run
-- alike. (Mercury Language Reference Manual: Modes; Determinism; this project's rules and event
-- lists.)
use Rattle.std.specs.Prelude.{◌≡◌, ◌<◌, ℕ, Bool, List, Option, length}
use Rattle.mc_program.specs.Programs.{TypeTerm}
use Rattle.mc_program.specs.PlainPrograms.{plain_program}
use Rattle.mc_program.specs.Values.{Val}
use Rattle.mc_program.specs.declared.builtin.Builtin.{Builtin}
use Rattle.mc_program.specs.declared.program.Program.{Program}
use Rattle.mc_model.specs.Outcomes.{Outcome}
use Rattle.mc_model.specs.Stream.{run_call, run_query}
use Rattle.mc_model.specs.declared.flat.Normal.{Normal}
use Rattle.mc_model.specs.declared.inst.Sig.{Sig}
use Rattle.mc_accepted.specs.InstRules.{PlainInstDef}
use Rattle.laws_order.specs.NormalScopes.{EachNamedApart}
use Rattle.laws_order.specs.SomeTest.{TypesMet}
use Rattle.mc_procs.specs.Fitting.{AllFit}
use Rattle.mc_procs.specs.Procedures.{PlainProcs, procedure_at}
use Rattle.mc_modes.specs.declared.ordering.Orders.TheVariants as O
use Rattle.mc_det_rules.specs.Main.{main_number}
use Rattle.mc_accepted.specs.NormalGoals.{HasNormalGoals}
use Rattle.mc_analysis.specs.Rules.{AnalysisGives, Determined, Ordered}
use Rattle.mc_analysis.specs.declared.rules.AnalysisResult.{AnalysisResult}
use Rattle.mc_analysis.specs.declared.rules.AnalysisResult.TheVariants as R
use Rattle.laws_one_answer.specs.ModesMeanOne.{NodesAreOne, SigsAreOne, ArePlaced}
use Rattle.laws_one_answer.specs.OneWhole.{GoalsAreOne, OneProgram}

-- Procedures of programs that are one as plain data run alike: under each number, at each budget and height, whatever
-- builtins do; and the same one is `main`, where there is one.
pub record RunAlike (q r : PlainProcs) : Type 0 where
  pub program : OneProgram q.program r.program
  pub main : main_number q ≡ main_number r
  pub calls :
      (does : Builtin → List Val → Outcome) (budget height k : ℕ) (vs : List (Option Val))
      → run_call does (procedure_at q.added) budget height k vs
      ≡ run_call does (procedure_at r.added) budget height k vs
  pub queries :
      (does : Builtin → List Val → Outcome) (budget height k : ℕ)
      → run_query does (procedure_at q.added) budget height (procedure_at q.added k)
      ≡ run_query does (procedure_at r.added) budget height (procedure_at r.added k)

-- Two answers are one.
abbrev pub OneRuled : AnalysisResult → AnalysisResult → Type 0
OneRuled (R.Procs q) (R.Procs r) = RunAlike q r
OneRuled (R.Procs q) (R.Broken v) = ⊥
OneRuled (R.Broken v) (R.Procs q) = ⊥
OneRuled (R.Broken v) (R.Broken w) = v.items ≡ w.items

-- Procedures that fit come of a program's goals, whatever rules of determinism they break.
pub record ComeToFit (P : Program) (ds : List PlainInstDef) (sigs : List Sig) (goals : List Normal)
    (exported : List Bool) : Type 0 where
  pub ordered : PlainProcs
  pub last : PlainProcs
  pub came : Ordered P ds sigs goals exported O.All ordered
  pub determined : Determined ordered last
  pub fit : AllFit last

-- each clause of a program names its quantified variables apart
abbrev pub AreNamedApart : Program → Type 0
AreNamedApart P =
    (p : ℕ) → p < length P.preds → EachNamedApart ((plain_program P).preds p).clauses

-- Whatever comes of a program's goals in its declared modes, it is one, by whatever definitions of
-- insts, where the nodes of modes are one. The goals are those of its clauses; below each type
-- there are finitely many; and signatures stand in the order of their predicates. Where procedures
-- come that fit, each clause names its quantified variables apart.
abbrev pub OneAnswer : Type 0
OneAnswer =
    (P : Program) (ds es : List PlainInstDef) (sigs others : List Sig) (goals : List Normal)
    (exported : List Bool) (runs : Bool)
    → SigsAreOne (NodesAreOne P ds es) sigs others
    → HasNormalGoals P goals
    → (ComeToFit P ds sigs goals exported → AreNamedApart P)
    → ((t : TypeTerm) → TypesMet (plain_program P) t)
    → ArePlaced 0 sigs
    → (r s : AnalysisResult)
    → AnalysisGives P ds sigs goals exported runs r
    → AnalysisGives P es others goals exported runs s
    → OneRuled r s

-- A list of signatures is one with itself.
abbrev pub SigsAreThemselves : Type 0
SigsAreThemselves =
    (P : Program) (ds : List PlainInstDef) (sigs : List Sig) → SigsAreOne (NodesAreOne P ds ds) sigs sigs

-- So it is of two programs that are one as plain data, with goals that are one, each in its own modes.
abbrev pub OnePlainAnswer : Type 0
OnePlainAnswer =
    (P Q : Program) (ds es : List PlainInstDef) (sigs modes : List Sig) (goals others : List Normal)
    (exported : List Bool) (runs : Bool)
    → OneProgram P Q → GoalsAreOne goals others
    → SigsAreOne (NodesAreOne P ds es) sigs modes
    → HasNormalGoals P goals
    → (ComeToFit P ds sigs goals exported → AreNamedApart P)
    → ((t : TypeTerm) → TypesMet (plain_program P) t)
    → ArePlaced 0 sigs
    → (r s : AnalysisResult)
    → AnalysisGives P ds sigs goals exported runs r
    → AnalysisGives Q es modes others exported runs s
    → OneRuled r s
