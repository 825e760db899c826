use Rattle.std.proofs.Common.{◌≡◌, ℕ, ◌≤◌, ◌-◌, length, get_or, None}
use Rattle.mc_plain.proofs.call.cleared.Given as goal

abbrev pub invariant-loop-frame : goal.invariant-loop-frame
invariant-loop-frame l = record {
  few : length l.frame.items ≤ l.size;
  none : (k : ℕ) → get_or l.frame.items k None ≡ None;
}

abbrev pub decreases-loop-frame : goal.decreases-loop-frame
decreases-loop-frame l = l.size - length l.frame.items
