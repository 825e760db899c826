-- Whatever sources are compiled to, it is one: one list of broken rules, or executables
-- that run alike. (Mercury Language Reference Manual: Modes; Determinism; this project's rules and
-- event lists.)
use Rattle.std.specs.Prelude.{◌≡◌, Bool, List, [], Result, Ok, Err}
use Rattle.mc_program.specs.Printed.{names_of}
use Rattle.mc_model.specs.Worlds.{library_of}
use Rattle.mc_type_table.specs.Rules.{type_faults}
use Rattle.mc_declarations.specs.Proper.{AreWellWritten}
use Rattle.mc_inst_table.specs.Rules.{AreInstFaults, InstItem}
use Rattle.mc_insts.specs.Defining.{plain_definitions}
use Rattle.mc_names.specs.Linked.{Linked}
use Rattle.mc_procs.specs.Procedures.{PlainProcs}
use Rattle.mc_source.specs.declared.rule.Broken.{Broken}
use Rattle.mc_analysis.specs.Premises.{GoalsAreTyped}
use Rattle.mc_analysis.specs.Rules.{AnalysisGives}
use Rattle.mc_analysis.specs.declared.rules.AnalysisResult.{AnalysisResult}
use Rattle.laws_types.specs.JudgedPrograms.{EachHasValues}
use Rattle.mc_compile.specs.declared.moded.Moded.{Moded}
use Rattle.mc_compile.specs.Phases.{Refusal, Breaks, Then}
use Rattle.mc_compile.specs.Sources.{Sources}
use Rattle.mc_compile.specs.Reading.{Reads}
use Rattle.mc_compile.specs.Linking.{PlainNamed, Links}
use Rattle.mc_compile.specs.Typing.{Types}
use Rattle.mc_compile.specs.Checking.{Clauses, items_of}
use Rattle.mc_compile.specs.Ruling.{PlainExecutable, IsModed, Insts, Modes}
use Rattle.mc_compile.specs.Compiling.{Compiles}
use Rattle.laws_one_answer.specs.OneAnswer.{RunAlike, OneRuled}

-- One answer comes of what is put in order of what is linked, where no definition of a type breaks
-- a rule.
abbrev pub OneOrderedAnswer : Type 0
OneOrderedAnswer =
    (runs first : Bool) (named : PlainNamed) (m n : Moded)
    → type_faults named.files.names ≡ []
    → IsModed first named m → IsModed first named n
    → (r s : AnalysisResult)
    → AnalysisGives m.whole.program (plain_definitions m.defs) m.sigs.items m.whole.goals.items
    m.whole.exported.items runs r
    → AnalysisGives n.whole.program (plain_definitions n.defs) n.sigs.items n.whole.goals.items
    n.whole.exported.items runs s
    → OneRuled r s

-- Items break one list of rules of insts.
abbrev pub OneInstList : Type 0
OneInstList =
    (l : Linked) (items : List InstItem) (faults others : List Broken)
    → AreInstFaults l items faults → AreInstFaults l items others → faults ≡ others

-- the phases up to what is put in order
abbrev pub ComeToModes : Sources → Result Moded Refusal → Type 0
ComeToModes sources =
    Then Reads (Then Links (Then Types (Then Clauses (Then Insts (Modes sources))))) sources

-- the goals of what is put in order are typed
abbrev pub ComeTyped : Sources → Type 0
ComeTyped sources =
    (moded : Moded)
    → ComeToModes sources (Ok moded)
    → GoalsAreTyped moded.whole.program moded.whole.goals.items

-- what is linked is well written, and the numbers and texts of its clauses are values
abbrev pub AreWellLinked : Sources → Type 0
AreWellLinked sources =
    (named : PlainNamed)
    → Then Reads Links sources (Ok named)
    → AreWellWritten named.files.names × EachHasValues (items_of named)

-- So they are where what is linked is well written.
abbrev pub WellLinkedAreTyped : Type 0
WellLinkedAreTyped = (sources : Sources) → AreWellLinked sources → ComeTyped sources

-- executables that run alike, with one goal
pub record OneExecutable (e f : PlainExecutable) : Type 0 where
  pub procs : RunAlike e.procs f.procs
  pub goal : f.goal ≡ e.goal

-- Two answers are one.
abbrev pub OneCompiled : (here there : Result PlainExecutable Refusal) → Type 0
OneCompiled (Ok e) (Ok f) = OneExecutable e f
OneCompiled (Ok e) (Err (Breaks rules)) = ⊥
OneCompiled (Err (Breaks rules)) (Ok f) = ⊥
OneCompiled (Err (Breaks rules)) (Err (Breaks others)) = others ≡ rules

-- Whatever sources are compiled to, it is one.
abbrev pub CompiledAreOne : Type 0
CompiledAreOne =
    (sources : Sources) (r q : Result PlainExecutable Refusal)
    → Compiles sources r → Compiles sources q → OneCompiled r q

-- Procedures that run alike are over programs whose values are written with the same names, and
-- whose library is one.
pub record RunWithOne (q r : PlainProcs) : Type 0 where
  pub names : names_of q.program ≡ names_of r.program
  pub library : library_of q.program ≡ library_of r.program

abbrev pub OneToBeRun : Type 0
OneToBeRun = (q r : PlainProcs) → RunAlike q r → RunWithOne q r
