use Rattle.mc_program.specs.Values.{plain_value}
use Rattle.mc_program.specs.Printed.{SymbolsBelow}
use Rattle.tests_print.proofs.tests.nested_first.Given as goal

abbrev pub invariant-levels : goal.invariant-levels
invariant-levels l = SymbolsBelow 16 (plain_value l.v)
