use Rattle.std.proofs.Common.{◌≡◌, ℕ, ◌<◌, ◌++◌, length, get_or, []}
use Rattle.mc_core_program.specs.Whole.{of_number}
use Rattle.mc_core_program.proofs.numbered.by_number.Given as goal

abbrev pub invariant-loop-number : goal.invariant-loop-number
invariant-loop-number g l = record {
  count : length l.rows.items ≡ l.fn.count;
  rows : (p : ℕ) → p < l.fn.count → get_or l.rows.items p [] ++ of_number p l.number-iterator.rest.items ≡ of_number p l.fn.numbered.items;
}
