use Rattle.std.proofs.Common.{◌≡◌, ◌++◌, drop}
use Rattle.mc_names.specs.Linked.{plain_names}
use Rattle.mc_names.specs.Candidates.{named_so}
use Rattle.mc_names.proofs.names.Names.named_so.Given as goal

abbrev pub invariant-loop-module : goal.invariant-loop-module
invariant-loop-module l = l.all.items ++ named_so (plain_names l.self) l.name (drop l.module-index l.modules) ≡ named_so (plain_names l.self) l.name l.modules
