use Rattle.std.proofs.Common.{◌≡◌, ℕ, length, get_or}
use Rattle.mc_det.proofs.outside.Outside.none.Given as goal

abbrev pub invariant-loop : goal.invariant-loop
invariant-loop l = record {
  count : length l.counts.items ≡ l.counter;
  none : (x : ℕ) → get_or l.counts.items x 0 ≡ 0;
}
