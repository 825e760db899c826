-- Procedures that are taken out and come back into their places.
use Rattle.std.specs.Prelude.{◌≡◌, ℕ, get_or, set, [], false}
use Rattle.mc_source.specs.Determinism.{inferred, det}
use Rattle.mc_model.specs.Scheduled.{node, Conj, no_nodes}
use Rattle.mc_model.specs.PlainGoals.{plain_node}
use Rattle.mc_model.specs.declared.sched.Proc.{Proc}
use Rattle.mc_procs.specs.Procedures.{PlainProcs, with_procs}

-- another procedure is in the place of one, to which it stands so; all others are as they were
pub record IsPlaced
    (R : (before after : Proc) → Type 0) (before : PlainProcs) (k : ℕ) (after : PlainProcs)
    : Type 0 where
  pub placed : Proc
  pub others : after ≡ with_procs before (set before.added k placed)
  pub so : R (get_or before.added k placed) placed

-- a procedure without the goals of its body
pub record HasNoGoals (p without : Proc) : Type 0 where
  pub others : without ≡ record p { body = without.body }
  pub body : plain_node without.body ≡ node (Conj no_nodes) [] (inferred det) false
