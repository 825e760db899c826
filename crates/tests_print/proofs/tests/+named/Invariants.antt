use Rattle.std.proofs.Common.{drop, map}
use Rattle.mc_program.specs.Values.{plain_value, vals}
use Rattle.mc_program.specs.Printed.{AllSymbolsBelow}
use Rattle.tests_print.proofs.tests.+named.Given as goal

abbrev pub invariant-are_named-loop-v : goal.invariant-are_named-loop-v
invariant-are_named-loop-v l = AllSymbolsBelow l.n (vals (map plain_value (drop l.v-index l.values))) → AllSymbolsBelow l.n (vals (map plain_value l.values))
