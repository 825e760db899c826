-- Procedures whose bodies are pruned. (Mercury Language Reference Manual: Determinism, pruning of
-- goals without outputs.)
use Rattle.std.specs.Prelude.{◌≡◌, ℕ, ◌<◌, List, length, get_or, Some, None, false}
use Rattle.mc_program.specs.Values.{Val}
use Rattle.mc_program.specs.declared.builtin.Builtin.{Builtin}
use Rattle.mc_source.specs.Determinism.{row_of, det, Allows}
use Rattle.mc_source.specs.declared.det.Det.{Det}
use Rattle.mc_model.specs.Outcomes.{Outcome}
use Rattle.mc_model.specs.PlainGoals.{plain_node, plain_proc}
use Rattle.mc_model.specs.declared.sched.Proc.{Proc}
use Rattle.mc_accepted.specs.Inferred.{with_determinisms}
use Rattle.mc_procs.specs.Procedures.{PlainProcs, as_system, with_procs}
use Rattle.mc_det.specs.Determinisms.{declared_procedure}
use Rattle.mc_det.specs.Pruned.{pruned_body}

-- Determinisms follow the declared ones: one that isn't declared is at or above `det`, and isn't
-- committed. So it is declared which calls have no answer.
pub record FollowDeclared (q : PlainProcs) (ds : ℕ → Det) : Type 0 where
  pub declared :
      (k : ℕ) (d : Det) → (declared_procedure q.added k).declared ≡ Some d → ds k ≡ d
  pub at_least_det :
      (k : ℕ) → (declared_procedure q.added k).declared ≡ None → Allows (row_of (ds k)) det
  pub uncommitted :
      (k : ℕ) → (declared_procedure q.added k).declared ≡ None → (ds k).committed ≡ false

-- A procedure is as it was but for its body, and the body is as it was but for its marks for pruned
-- goals, which stand where they have to, whatever builtins do.
pub record IsPruned (q : PlainProcs) (before after : Proc) : Type 0 where
  pub others : after ≡ record before { body = after.body }
  pub body :
      (outcome : Builtin → List Val → Outcome) (ds : ℕ → Det)
      → FollowDeclared q ds
      → plain_node after.body
      ≡ pruned_body (with_determinisms (as_system outcome q) ds) (plain_proc before)

-- all procedures
pub record Pruned (before after : PlainProcs) : Type 0 where
  pub others : after ≡ with_procs before after.added
  pub count : length after.added ≡ length before.added
  pub pruned :
      (k : ℕ) (d : Proc)
      → k < length before.added
      → IsPruned before (get_or before.added k d) (get_or after.added k d)
