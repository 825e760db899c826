-- What comes of a program: its procedures in their declared modes, or the rules of modes or of
-- determinism that they break. (Mercury Language Reference Manual: Modes; Determinism; this project's
-- rules.)
use Rattle.std.specs.Prelude.{◌≡◌, ◌++◌, Bool, List, Vec, []}
use Rattle.std.specs.Global.{Global}
use Rattle.mc_source.specs.declared.rule.Broken.{Broken}
use Rattle.mc_program.specs.Values.{Val}
use Rattle.mc_program.specs.PlainPrograms.{plain_program}
use Rattle.mc_program.specs.declared.builtin.Builtin.{Builtin}
use Rattle.mc_program.specs.declared.program.Program.{Program}
use Rattle.mc_model.specs.Outcomes.{Outcome}
use Rattle.mc_model.specs.declared.flat.Normal.{Normal}
use Rattle.mc_model.specs.declared.inst.Sig.{Sig}
use Rattle.mc_accepted.specs.DeterminismFaults.{determinism_faults}
use Rattle.mc_source.specs.Rules.{by_place}
use Rattle.mc_accepted.specs.InstRules.{PlainInstDef}
use Rattle.mc_procs.specs.Fitting.{AllFit}
use Rattle.mc_procs.specs.Procedures.{PlainProcs, insts_of}
use Rattle.mc_modes.specs.Numbering.{mode_ids}
use Rattle.mc_modes.specs.Outcomes.{GrownFrom, AreBroken, ModesGive}
use Rattle.mc_modes.specs.declared.modes.ModeId.{ModeId}
use Rattle.mc_modes.specs.declared.ordering.Orders.{Orders}
use Rattle.mc_modes.specs.declared.ordering.Orders.TheVariants as O
use Rattle.mc_det_constraints.specs.Least.{assigned}
use Rattle.mc_det.specs.Determinisms.{AreDeterminisms, declared_system}
use Rattle.mc_det.specs.MarkedProcedures.{Inferred, MarksHold, determinisms_of}
use Rattle.mc_det.specs.PrunedProcedures.{Pruned}
use Rattle.mc_switch.specs.SwitchedBodies.{Switches}
use Rattle.mc_analysis.specs.Premises.{InitialProcedures, Preconditions}
use Rattle.mc_analysis.specs.Untidy.{AreAsked}
use Rattle.mc_analysis.specs.declared.rules.AnalysisResult.{AnalysisResult}
use Rattle.mc_analysis.specs.declared.rules.AnalysisResult.TheVariants as R

-- bodies are put in switch form and pruned, and then determinisms are inferred, with which they are
-- marked
pub record Determined (before after : PlainProcs) : Type 0 where
  pub switched : PlainProcs
  pub between : PlainProcs
  pub forms : Switches before switched
  pub pruned : Pruned switched between
  pub inferred : Inferred between after
  pub marks : MarksHold after
  pub least : AreDeterminisms after (determinisms_of after)

-- the rules of determinism that procedures break, whatever builtins do
abbrev pub FaultsAre : (runs : Bool) → PlainProcs → List Broken → Type 0
FaultsAre runs q faults =
    (outcome : Builtin → List Val → Outcome)
    → faults ≡ determinism_faults runs (declared_system outcome q) (assigned (determinisms_of q))

-- this became of the goals of all declared modes, from the beginning on
pub record Ordered (P : Program) (ds : List PlainInstDef) (sigs : List Sig) (goals : List Normal) (exported : List Bool)
    (orders : Orders) (last : PlainProcs) : Type 0 where
  pub first : PlainProcs
  pub begins : InitialProcedures P ds sigs [] first
  pub asked : Preconditions first sigs goals exported
  pub became : ModesGive sigs goals exported first last orders
  pub grown : GrownFrom first last

-- Procedures come where no rule is broken; they fit one another, as they do where a rule of determinism
-- is broken. Where some mode breaks the rule of unique modes, each that does is told, and with them the
-- rules that goals break in modes that keep it, where they call only predicates whose modes all keep it,
-- in the order of places; where none does, the rules of all modes are; and where these are kept rules of
-- determinism.
pub data AnalysisGives (P : Program) (ds : List PlainInstDef) (sigs : List Sig) (goals : List Normal) (exported : List Bool)
    (runs : Bool) : AnalysisResult → Type 0 where
  break_no_rule :
      {ordered last : PlainProcs}
      → Ordered P ds sigs goals exported O.All ordered
      → Determined ordered last → FaultsAre runs last [] → AllFit last
      → AnalysisGives P ds sigs goals exported runs (R.Procs last)
  break_uniqueness :
      {first last : PlainProcs} {untidy faults : List Broken} {ids : List ModeId}
      {list : Vec Broken Global}
      → InitialProcedures P ds sigs untidy first → (untidy ≡ [] → ⊥)
      → Preconditions first sigs goals exported
      → AreAsked (plain_program P) (insts_of first) sigs goals (mode_ids P sigs) ids
      → AreBroken sigs goals first last ids faults
      → list.items ≡ by_place (untidy ++ faults)
      → AnalysisGives P ds sigs goals exported runs (R.Broken list)
  break_modes :
      {last : PlainProcs} {list : Vec Broken Global}
      → Ordered P ds sigs goals exported (O.Broken list) last
      → AnalysisGives P ds sigs goals exported runs (R.Broken list)
  break_determinism :
      {ordered last : PlainProcs} {list : Vec Broken Global}
      → Ordered P ds sigs goals exported O.All ordered
      → Determined ordered last → FaultsAre runs last list.items → AllFit last
      → (list.items ≡ [] → ⊥)
      → AnalysisGives P ds sigs goals exported runs (R.Broken list)
