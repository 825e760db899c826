use Rattle.std.proofs.Common.{◌≡◌, length}
use Rattle.mc_core_program.proofs.numbered.how_many.Given as goal

abbrev pub invariant-loop-number : goal.invariant-loop-number
invariant-loop-number g l = length l.counts.items ≡ l.count
