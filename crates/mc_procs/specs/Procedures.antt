-- Procedures with the program and the insts that they are over, and the system that they make.
-- (Mercury Language Reference Manual: Modes, a predicate's modes; this project's certificates.)
use Rattle.std.specs.Prelude.{ℕ, List, [], ◌∷◌, ◌++◌, length, map, get_or, Some, None, false}
use Rattle.mc_source.specs.Determinism.{inferred, det}
use Rattle.mc_program.specs.Values.{Val}
use Rattle.mc_program.specs.Programs.{Source}
use Rattle.mc_program.specs.PlainPrograms.{plain_program}
use Rattle.mc_program.specs.declared.builtin.Builtin.{Builtin}
use Rattle.mc_program.specs.declared.program.Program.{Program}
use Rattle.mc_program.specs.declared.program.TypeDef.{TypeDef}
use Rattle.mc_model.specs.Insts.{Graph}
use Rattle.mc_model.specs.Outcomes.{Outcome}
use Rattle.mc_model.specs.Scheduled.{node, Conj, no_nodes, Procedure}
use Rattle.mc_model.specs.Good.{System}
use Rattle.mc_model.specs.PlainGoals.{plain_proc}
use Rattle.mc_model.specs.declared.sched.Proc.{Proc}
use Rattle.mc_accepted.specs.ProperTypes.{Parameters}
use Rattle.mc_insts.specs.declared.insts.Insts.{Insts}
use Rattle.mc_insts.specs.Graphs.{graph_of}

-- a program, its insts, the predicate of each procedure that it is to have, in the order of their
-- numbers, and the procedures that came so far
pub record PlainProcs : Type 0 where
  pub program : Program
  pub insts : Insts
  pub preds : List ℕ
  pub added : List Proc

abbrev pub source_of : PlainProcs → Source
source_of q = plain_program q.program

abbrev pub insts_of : PlainProcs → Graph
insts_of q = graph_of q.insts

-- how many parameters each union type of a program has
abbrev pub parameters_in : Program → Parameters
parameters_in P u = get_or (map (λ (t : TypeDef). Some t.params) P.types) u None

abbrev pub parameters_of : PlainProcs → Parameters
parameters_of q = parameters_in q.program

-- what stands at a number that no procedure has: one that does nothing
abbrev pub no_procedure : Procedure
no_procedure =
    record {
      pred = 0;
      head = [];
      first = [];
      last = [];
      body = node (Conj no_nodes) [] (inferred det) false;
      det = inferred det;
      var_types = [];
    }

-- the procedures, by number
abbrev pub procedure_at : List Proc → ℕ → Procedure
procedure_at ps k = get_or (map plain_proc ps) k no_procedure

-- the system of the procedures that came, where builtins do this
abbrev pub as_system : (outcome : Builtin → List Val → Outcome) → PlainProcs → System
as_system outcome q =
    record {
      world = record { source = source_of q; outcome = outcome };
      count = length q.added;
      procs = procedure_at q.added;
      insts = insts_of q;
    }

-- other insts, and other procedures, are in their place
abbrev pub with_insts : PlainProcs → Insts → PlainProcs
with_insts q insts =
    record { program = q.program; insts = insts; preds = q.preds; added = q.added }

abbrev pub with_procs : PlainProcs → List Proc → PlainProcs
with_procs q procs =
    record { program = q.program; insts = q.insts; preds = q.preds; added = procs }

-- one more procedure came
abbrev pub with_proc : PlainProcs → Proc → PlainProcs
with_proc q p = with_procs q (q.added ++ p ∷ [])
