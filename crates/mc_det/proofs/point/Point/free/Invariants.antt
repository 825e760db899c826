use Rattle.std.proofs.Common.{◌≡◌, ℕ, length, get_or}
use Rattle.mc_det.proofs.point.Point.free.Given as goal

abbrev pub invariant-loop : goal.invariant-loop
invariant-loop l = record {
  count : length l.insts.items ≡ l.counter;
  free : (x : ℕ) → get_or l.insts.items x 0 ≡ 0;
}
