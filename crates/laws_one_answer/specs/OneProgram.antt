-- Two programs that are one as plain data: what comes of one comes of the other, over it.
-- (Mercury Language Reference Manual: Modes; Determinism; this project's rules.)
use Rattle.std.specs.Prelude.{Bool, List}
use Rattle.mc_program.specs.declared.program.Program.{Program}
use Rattle.mc_model.specs.declared.flat.Normal.{Normal}
use Rattle.mc_model.specs.declared.inst.Sig.{Sig}
use Rattle.mc_accepted.specs.InstRules.{PlainInstDef}
use Rattle.mc_procs.specs.Procedures.{PlainProcs}
use Rattle.mc_analysis.specs.Rules.{AnalysisGives}
use Rattle.mc_analysis.specs.declared.rules.AnalysisResult.{AnalysisResult}
use Rattle.mc_analysis.specs.declared.rules.AnalysisResult.TheVariants as R
use Rattle.laws_one_answer.specs.OneWhole.{GoalsAreOne, OneProgram}

-- the same procedures over this program
abbrev pub over : Program → PlainProcs → PlainProcs
over P q = record { program = P; insts = q.insts; preds = q.preds; added = q.added }

-- the same answer, of procedures over this program
abbrev pub ruled_over : Program → AnalysisResult → AnalysisResult
ruled_over P (R.Procs q) = R.Procs (over P q)
ruled_over P (R.Broken v) = R.Broken v

-- Whatever comes of a program comes of each that is one with it, and of goals that are one, too.
abbrev pub OneComes : Type 0
OneComes =
    (P Q : Program) (ds : List PlainInstDef) (sigs : List Sig) (goals others : List Normal)
    (exported : List Bool) (runs : Bool)
    → OneProgram P Q → GoalsAreOne goals others
    → (s : AnalysisResult) → AnalysisGives Q ds sigs others exported runs s
    → AnalysisGives P ds sigs goals exported runs (ruled_over P s)
