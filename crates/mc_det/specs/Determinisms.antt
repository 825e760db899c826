-- A program's procedures as they are declared, from procedures as data; and the determinisms that
-- procedures have. (Mercury Language Reference Manual: Determinism, inference.)
use Rattle.std.specs.Prelude.{ℕ, List, length, map, get_or, None, false}
use Rattle.mc_program.specs.Values.{Val}
use Rattle.mc_program.specs.declared.builtin.Builtin.{Builtin}
use Rattle.mc_source.specs.declared.det.Det.{Det}
use Rattle.mc_model.specs.Outcomes.{Outcome}
use Rattle.mc_model.specs.PlainGoals.{plain_proc}
use Rattle.mc_model.specs.declared.sched.Proc.{Proc}
use Rattle.mc_accepted.specs.Inferred.{DeclaredProcedure, DeclaredSystem, LeastClosed}
use Rattle.mc_procs.specs.Procedures.{PlainProcs, source_of, insts_of, no_procedure}
use Rattle.mc_det_constraints.specs.Least.{assigned}

abbrev pub as_declared : Proc → DeclaredProcedure
as_declared p =
    record {
      procedure = plain_proc p;
      declared = p.declared;
      exported = p.exported;
      at = p.at;
    }

-- what stands at a number that no procedure has
abbrev pub none_declared : DeclaredProcedure
none_declared =
    record {
      procedure = no_procedure;
      declared = None;
      exported = false;
      at = record { file = 0; line = 0 };
    }

abbrev pub declared_procedure : List Proc → ℕ → DeclaredProcedure
declared_procedure ps k = get_or (map as_declared ps) k none_declared

-- the procedures that came, as they are declared, where builtins do this
abbrev pub declared_system : (outcome : Builtin → List Val → Outcome) → PlainProcs → DeclaredSystem
declared_system outcome q =
    record {
      world = record { source = source_of q; outcome = outcome };
      count = length q.added;
      procs = declared_procedure q.added;
      insts = insts_of q;
    }

-- these are the determinisms of procedures: declared ones as they are declared, the others the least
-- that their bodies allow
abbrev pub AreDeterminisms : PlainProcs → List Det → Type 0
AreDeterminisms q ds =
    (outcome : Builtin → List Val → Outcome)
    → LeastClosed (declared_system outcome q) (assigned ds)
