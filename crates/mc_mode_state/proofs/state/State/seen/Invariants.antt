use Rattle.std.proofs.Common.{◌≡◌, ◌≤◌, length, drop}
use Rattle.mc_accepted.specs.Arranged.{ascending}
use Rattle.mc_mode_state.specs.States.{is_outside}
use Rattle.mc_mode_state.proofs.state.State.seen.Given as goal

abbrev pub invariant-loop-k : goal.invariant-loop-k
invariant-loop-k l =
    record {
      within : l.k ≤ length l.own;
      row : l.row.items ≡ ascending (is_outside l.self.outside.items) (drop l.k l.own);
    }

abbrev pub decreases-loop-k : goal.decreases-loop-k
decreases-loop-k l = l.k
