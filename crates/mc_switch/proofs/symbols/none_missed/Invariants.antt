use Rattle.std.proofs.Common.{◌≡◌, true, nat_eq, take}
use Rattle.std.specs.HashSet.{contains}
use Rattle.mc_switch.specs.code.Choices.{none_missed}
use Rattle.mc_switch.proofs.symbols.none_missed.Given as goal

abbrev pub invariant-loop-symbol : goal.invariant-loop-symbol
invariant-loop-symbol l = none_missed l.procs l.i (contains nat_eq l.found) (take l.symbol-index l.symbols) ≡ true
