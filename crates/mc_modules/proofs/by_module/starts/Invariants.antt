use Rattle.std.proofs.Common.{◌≡◌, ◌++◌, drop}
use Rattle.mc_modules.specs.code.Passes.{starts_from}
use Rattle.mc_modules.proofs.by_module.starts.Given as goal

abbrev pub invariant-loop-names : goal.invariant-loop-names
invariant-loop-names l = l.starts.items ++ starts_from l.n (drop l.names-index l.has) ≡ starts_from 0 l.has
