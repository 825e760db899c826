-- The rules of modes that a program breaks are one list, whatever nodes are made as goals are put in
-- order. (Mercury Language Reference Manual: Modes; this project's rules.)
use Rattle.std.specs.Prelude.{◌≡◌, Bool, List, All}
use Rattle.mc_source.specs.declared.rule.Broken.{Broken}
use Rattle.mc_program.specs.Programs.{TypeTerm}
use Rattle.mc_program.specs.PlainPrograms.{plain_program}
use Rattle.mc_program.specs.declared.program.Program.{Program}
use Rattle.mc_model.specs.declared.flat.Normal.{Normal}
use Rattle.mc_model.specs.declared.inst.Sig.{Sig}
use Rattle.mc_accepted.specs.InstRules.{PlainInstDef}
use Rattle.laws_order.specs.SomeTest.{TypesMet}
use Rattle.mc_procs.specs.Procedures.{PlainProcs, insts_of}
use Rattle.mc_modes.specs.Numbering.{IsMode}
use Rattle.mc_modes.specs.Outcomes.{AreBroken}
use Rattle.mc_modes.specs.declared.modes.ModeId.{ModeId}
use Rattle.mc_analysis.specs.Premises.{InitialProcedures, Preconditions}
use Rattle.mc_analysis.specs.Untidy.{OverTidy}
use Rattle.laws_one_answer.specs.ModesMeanOne.{NodesAreOne, SigsAreOne}

-- Where goals over tidy modes alone are tried in two ways, from the beginning on, they break one list of
-- rules; and where they break none in one, they break none in the other.
abbrev pub OneListOfRules : Type 0
OneListOfRules =
    (P : Program) (ds es : List PlainInstDef) (sigs modes : List Sig) (goals : List Normal)
    (exported : List Bool) (untidy told : List Broken) (first other here there : PlainProcs)
    (ids : List ModeId) (faults others : List Broken)
    → SigsAreOne (NodesAreOne P ds es) sigs modes
    → ((t : TypeTerm) → TypesMet (plain_program P) t)
    → InitialProcedures P ds sigs untidy first → InitialProcedures P es modes told other
    → Preconditions first sigs goals exported → Preconditions other modes goals exported
    → All (IsMode P sigs) ids
    → All (OverTidy (plain_program P) (insts_of first) sigs goals) ids
    → AreBroken sigs goals first here ids faults → AreBroken modes goals other there ids others
    → faults ≡ others
