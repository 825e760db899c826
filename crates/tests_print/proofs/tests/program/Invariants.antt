use Rattle.std.proofs.Common.{◌≡◌, length}
use Rattle.tests_print.proofs.tests.program.Given as goal

abbrev pub invariant-loop-name : goal.invariant-loop-name
invariant-loop-name l = length l.symbols ≡ l.name-index
