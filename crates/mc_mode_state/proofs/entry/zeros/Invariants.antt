use Rattle.std.proofs.Common.{◌≡◌, ◌≤◌, ◌-◌, ℕ, length, get_or}
use Rattle.mc_mode_state.proofs.entry.zeros.Given as goal

abbrev pub invariant-loop-row : goal.invariant-loop-row
invariant-loop-row l =
    record {
      few : length l.row.items ≤ l.many;
      zeros : (x : ℕ) → get_or l.row.items x 0 ≡ 0;
    }

abbrev pub decreases-loop-row : goal.decreases-loop-row
decreases-loop-row l = l.many - length l.row.items
