use Rattle.std.proofs.Common.{◌≡◌, ◌++◌, drop, map}
use Rattle.mc_modules.specs.Linked.{numbers}
use Rattle.mc_names.specs.Linked.{plain_named}
use Rattle.mc_modules.proofs.by_module.put_numbers.Given as goal

abbrev pub invariant-loop-named : goal.invariant-loop-named
invariant-loop-named l = l.all.items ++ numbers l.own l.number (map plain_named (drop l.named-index l.names)) ≡ l.fn.all.items ++ numbers l.own l.start (map plain_named l.names)
