-- Procedures whose determinisms are inferred, and whose bodies are marked with them. (Mercury Language
-- Reference Manual: Determinism, inference.)
use Rattle.std.specs.Prelude.{◌≡◌, ℕ, ◌<◌, List, length, map, get_or}
use Rattle.mc_program.specs.Values.{Val}
use Rattle.mc_program.specs.declared.builtin.Builtin.{Builtin}
use Rattle.mc_source.specs.declared.det.Det.{Det}
use Rattle.mc_model.specs.Outcomes.{Outcome}
use Rattle.mc_model.specs.Good.{System}
use Rattle.mc_model.specs.PlainGoals.{plain_node, plain_proc}
use Rattle.mc_model.specs.declared.sched.Proc.{Proc}
use Rattle.mc_accepted.specs.Accepted.{entered, KeepsDeterminism}
use Rattle.mc_accepted.specs.Determined.{nothing_known}
use Rattle.mc_accepted.specs.Inferred.{with_determinisms}
use Rattle.mc_procs.specs.Procedures.{PlainProcs, as_system, procedure_at, with_procs}
use Rattle.mc_det_constraints.specs.Least.{assigned}
use Rattle.mc_det.specs.Determinisms.{AreDeterminisms}
use Rattle.mc_det.specs.Marked.{marked_body}

-- the determinisms that procedures have
abbrev pub determinisms_of : PlainProcs → List Det
determinisms_of q = map (λ (p : Proc). p.det) q.added

-- the system of procedures where they have these determinisms
abbrev pub where_determined : (Builtin → List Val → Outcome) → PlainProcs → List Det → System
where_determined outcome q ds = with_determinisms (as_system outcome q) (assigned ds)

-- A procedure is as it was but for its determinism and its body, and the body is as it was but for
-- its marks: each goal has the determinism that the table gives where procedures have these, whatever
-- builtins do.
pub record IsMarked (q : PlainProcs) (ds : List Det) (before after : Proc) : Type 0 where
  pub others : after ≡ record before { body = after.body; det = after.det }
  pub body :
      (outcome : Builtin → List Val → Outcome)
      → plain_node after.body ≡ marked_body (where_determined outcome q ds) (plain_proc before)

-- The procedures are as they were but for their determinisms, which are the least that their bodies
-- allow, or declared, and the marks of their bodies.
pub record Inferred (before after : PlainProcs) : Type 0 where
  pub others : after ≡ with_procs before after.added
  pub count : length after.added ≡ length before.added
  pub determinisms : AreDeterminisms before (determinisms_of after)
  pub marked :
      (k : ℕ) (d : Proc)
      → k < length before.added
      → IsMarked before (determinisms_of after) (get_or before.added k d)
      (get_or after.added k d)

-- Each goal of each body has the determinism that the table gives it where procedures have those that
-- they have, as accepted procedures do.
abbrev pub MarksHold : PlainProcs → Type 0
MarksHold q =
    (outcome : Builtin → List Val → Outcome) (k : ℕ)
    → k < length q.added
    → KeepsDeterminism (as_system outcome q) (procedure_at q.added k)
    (entered (procedure_at q.added k).head (procedure_at q.added k).first) nothing_known
    (procedure_at q.added k).body
