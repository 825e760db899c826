-- What sources are that are compiled to procedures: their names and types break no rule, and the procedures
-- come of the program that they are.
use Rattle.std.proofs.Common.{◌≡◌, List, [], ◌∷◌, Result, Ok, refl, sym, ap, ◌∙◌, subst}
use Rattle.mc_source.specs.declared.rule.Broken.{Broken}
use Rattle.mc_type_table.specs.Rules.{type_faults}
use Rattle.mc_insts.specs.Defining.{plain_definitions}
use Rattle.mc_procs.specs.Procedures.{PlainProcs}
use Rattle.mc_analysis.specs.Rules.{AnalysisGives}
use Rattle.mc_analysis.specs.declared.rules.AnalysisResult.{AnalysisResult}
use Rattle.mc_analysis.specs.declared.rules.AnalysisResult.TheVariants as R
use Rattle.mc_compile.specs.declared.moded.Moded.{Moded}
use Rattle.mc_compile.specs.Compiling.{Compiles}
use Rattle.mc_compile.specs.Linking.{PlainNamed}
use Rattle.mc_compile.specs.Phases.{Refusal, unless_broken, went_on}
use Rattle.mc_compile.specs.Ruling.{PlainExecutable, IsModed, executable, goal_of}
use Rattle.mc_compile.specs.Sources.{Sources}
use Rattle.mc_compile.specs.Typing.{PlainTyped, typed_as}

-- procedures come of the program that runs, and nothing else
abbrev pub ComeOf : Sources → Moded → AnalysisResult → Type 0
ComeOf s moded ruled =
    AnalysisGives moded.whole.program (plain_definitions moded.defs) moded.sigs.items moded.whole.goals.items moded.whole.exported.items s.wants_main ruled

pub record IsBuilt (s : Sources) (e : PlainExecutable) : Type 0 where
  pub named : PlainNamed
  pub no_faults : type_faults named.files.names ≡ []
  pub moded : Moded
  pub is_moded : IsModed s.first named moded
  pub come : ComeOf s moded (R.Procs e.procs)
  pub goal : e.goal ≡ goal_of s.wants_main e.procs moded.query moded.whole.variables

ok_same : {A B : Type 0} (x y : A) → ◌≡◌ {A = Result A B} (Ok x) (Ok y) → x ≡ y
ok_same x y e = cc

-- a phase that made something broke no rule
unbroken : {A : Type 0} (rules : List Broken) (made x : A) → ◌≡◌ {A = Result A Refusal} (Ok x) (unless_broken rules made) → (rules ≡ []) × (x ≡ made)
unbroken [] made x e = (refl, ok_same x made e)
unbroken (rule ∷ rules) made x e = cc

module _ (s : Sources) (moded : Moded) (e : PlainExecutable) where
  abbrev made : PlainProcs → PlainExecutable
  made procs = record { procs = procs; goal = goal_of s.wants_main procs moded.query moded.whole.variables }

  ruled_to : (ruled : AnalysisResult) → ComeOf s moded ruled → ◌≡◌ {A = Result PlainExecutable Refusal} (Ok e) (executable s.wants_main moded ruled) → ComeOf s moded (R.Procs e.procs) × (e.goal ≡ goal_of s.wants_main e.procs moded.query moded.whole.variables)
  ruled_to (R.Procs procs) come is =
      let same : e ≡ made procs = ok_same e (made procs) is in
      let of : e.procs ≡ procs = ap (λ (x : PlainExecutable). x.procs) same in (
        subst (λ q. ComeOf s moded (R.Procs q)) (sym of) come,
        ap (λ (x : PlainExecutable). x.goal) same ∙ ap (λ q. goal_of s.wants_main q moded.query moded.whole.variables) (sym of),
      )
  ruled_to (R.Broken list) come is = cc

pub is_built : (s : Sources) (e : PlainExecutable) → Compiles s (Ok e) → IsBuilt s e
is_built s e (went_on r (went_on {b = named} l (went_on {b = typed} t (went_on {b = checked} c (went_on {b = insts} i (went_on {b = moded} m p)))))) =
    let types = unbroken (type_faults named.files.names) (typed_as named) typed t in
    let clauses = unbroken c.rules typed checked c.is in
    let of_insts = unbroken i.rules checked insts i.is in
    let same : insts.named ≡ named = ap (λ (x : PlainTyped). x.named) (of_insts.1 ∙ clauses.1 ∙ types.1) in
    let is : moded ≡ m.moded = ok_same moded m.moded m.is in
    let ruled = ruled_to s moded e p.ruled p.comes p.is in
    record {
      named = named;
      no_faults = types.0;
      moded = moded;
      is_moded = subst (λ n. IsModed s.first n moded) same (subst (IsModed s.first insts.named) (sym is) m.is_moded);
      come = ruled.0;
      goal = ruled.1;
    }
