use Rattle.mc_program.specs.Values.{plain_value}
use Rattle.mc_program.specs.Printed.{SymbolsBelow}
use Rattle.tests_print.proofs.tests.long_list.Given as goal

abbrev pub invariant-loop-i : goal.invariant-loop-i
invariant-loop-i l = SymbolsBelow 16 (plain_value l.list)
