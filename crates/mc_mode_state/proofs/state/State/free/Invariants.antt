use Rattle.std.proofs.Common.{◌≡◌, ◌≤◌, length, drop, not}
use Rattle.mc_model.specs.Stream.{is_bound}
use Rattle.mc_accepted.specs.Arranged.{ascending}
use Rattle.mc_mode_state.specs.States.{point_of}
use Rattle.mc_mode_state.proofs.state.State.free.Given as goal

abbrev pub invariant-loop-k : goal.invariant-loop-k
invariant-loop-k l =
    record {
      within : l.k ≤ length l.xs;
      row :
          l.row.items
          ≡ ascending (λ x. not (is_bound (point_of l.self.insts.items x))) (drop l.k l.xs);
    }

abbrev pub decreases-loop-k : goal.decreases-loop-k
decreases-loop-k l = l.k
