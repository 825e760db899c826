-- Procedures that fit their program and its insts: what is asked of each, what is kept of all, and
-- what it gives of their system. (Mercury Language Reference Manual: Types; Modes; this project's
-- certificates.)
use Rattle.std.specs.Prelude.{◌≡◌, ℕ, ◌<◌, ◌≤◌, List, length, get_or}
use Rattle.mc_program.specs.Values.{Val}
use Rattle.mc_program.specs.PlainPrograms.{plain_program}
use Rattle.mc_program.specs.declared.builtin.Builtin.{Builtin}
use Rattle.mc_program.specs.declared.program.Program.{Program}
use Rattle.mc_model.specs.Outcomes.{Outcome}
use Rattle.mc_model.specs.Scheduled.{Procedure}
use Rattle.mc_accepted.specs.BuiltinFits.{FitsBuiltins}
use Rattle.mc_accepted.specs.BuiltinTypes.{Library_types}
use Rattle.mc_accepted.specs.Fits.{FitsTypes, FitsProcedure, Fits}
use Rattle.mc_accepted.specs.IoFits.{FitsIo}
use Rattle.mc_insts.specs.declared.insts.Insts.{Insts}
use Rattle.mc_insts.specs.Graphs.{count_of}
use Rattle.mc_insts.specs.Kept.{AreOf}
use Rattle.mc_procs.specs.Named.{Bounds, NumbersBelow, Named}
use Rattle.mc_procs.specs.Procedures.{PlainProcs, parameters_in, parameters_of, procedure_at, as_system}

abbrev pub bounds_of : PlainProcs → Procedure → Bounds
bounds_of q p =
    record {
      variables = length p.var_types;
      symbols = length q.program.symbols;
      procedures = length q.preds;
      insts = count_of q.insts;
    }

-- What is asked of a procedure that comes: its numbers name what is there, calls those that are to
-- come too; it fits as a procedure of any system with this program and these insts does.
pub record ProcedureFits (q : PlainProcs) (p : Procedure) : Type 0 where
  pub head : NumbersBelow (length p.var_types) p.head
  pub first : NumbersBelow (count_of q.insts) p.first
  pub last : NumbersBelow (count_of q.insts) p.last
  pub body : Named (bounds_of q p) p.body
  pub fits :
      (outcome : Builtin → List Val → Outcome)
      → FitsProcedure (as_system outcome q) (parameters_of q) p

-- What is asked of a program and its insts: the insts are those of the program, and its types fit.
pub record ProgramFits (program : Program) (insts : Insts) : Type 0 where
  pub insts_are : AreOf (plain_program program) insts
  pub types : FitsTypes (plain_program program) (parameters_in program)

-- What holds of procedures at any time: the program and its insts fit, and each procedure that came
-- is of its predicate and fits.
pub record AllFit (q : PlainProcs) : Type 0 where
  pub program : ProgramFits q.program q.insts
  pub fewer : length q.added ≤ length q.preds
  pub preds :
      (k : ℕ) → k < length q.added → (procedure_at q.added k).pred ≡ get_or q.preds k 0
  pub each : (k : ℕ) → k < length q.added → ProcedureFits q (procedure_at q.added k)

-- The system fits where its builtins do.
abbrev pub SystemFits : PlainProcs → Type 0
SystemFits q =
    (outcome : Builtin → List Val → Outcome)
    → FitsBuiltins (as_system outcome q).world
    → ((K : Library_types) × FitsIo (as_system outcome q).world K)
    → Fits (as_system outcome q) (parameters_of q)
