use Rattle.std.proofs.Common.{◌≡◌, ◌++◌, drop}
use Rattle.mc_program.specs.Printed.{more_bindings}
use Rattle.mc_print.proofs.line.write_bindings.Given as goal

abbrev pub invariant-loop-k : goal.invariant-loop-k
invariant-loop-k l = l.out ++ more_bindings (drop l.k l.names) (drop l.k l.values) ≡ l.initial.out ++ more_bindings l.names l.values
