use Rattle.std.proofs.Common.{◌≡◌, ℕ, ◌<◌, length}
use Rattle.mc_procs.specs.Procedures.{procedure_at}
use Rattle.mc_det_constraints.specs.Least.{body_at}
use Rattle.mc_det.specs.ConstraintLaws.{constraint_of}
use Rattle.mc_det.specs.code.Walks.{InSystems}
use Rattle.mc_det.proofs.inference.constraints.Given as goal

abbrev pub invariant-loop-k : goal.invariant-loop-k
invariant-loop-k l =
    record {
      count : length l.bodies.items ≡ l.k;
      each : InSystems l.procs (λ S. (j : ℕ) → j < l.k → body_at l.bodies.items j ≡ constraint_of S (procedure_at l.procs.added j));
    }
