use Rattle.std.proofs.Common.{◌≡◌, ℕ, [], length, get_or, map}
use Rattle.mc_det_constraints.proofs.callers.Callers.none.Given as goal

abbrev pub invariant-loop : goal.invariant-loop
invariant-loop l = record {
  many : length l.lists.items ≡ l.counter;
  none : (q : ℕ) → get_or (map (λ v. v.items) l.lists.items) q [] ≡ [];
}
