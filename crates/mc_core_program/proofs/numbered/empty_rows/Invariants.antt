use Rattle.std.proofs.Common.{◌≡◌, ℕ, length, get_or, []}
use Rattle.mc_core_program.proofs.numbered.empty_rows.Given as goal

abbrev pub invariant-loop-count : goal.invariant-loop-count
invariant-loop-count g l = record {
  count : length l.rows.items ≡ l.count-index;
  rows : (p : ℕ) → get_or l.rows.items p [] ≡ [];
}
