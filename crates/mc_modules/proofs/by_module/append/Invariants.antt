use Rattle.std.proofs.Common.{◌≡◌, ◌++◌}
use Rattle.mc_modules.proofs.by_module.append.Given as goal

abbrev pub invariant-loop-named : goal.invariant-loop-named
invariant-loop-named l = l.all.items ++ l.named-iterator.rest.items ≡ l.fn.all.items ++ l.fn.names
