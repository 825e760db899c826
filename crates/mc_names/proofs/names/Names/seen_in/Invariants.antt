use Rattle.std.proofs.Common.{◌≡◌, ◌++◌, drop}
use Rattle.mc_names.specs.Linked.{plain_names}
use Rattle.mc_names.specs.code.Chosen.{types_seen}
use Rattle.mc_names.proofs.names.Names.seen_in.Given as goal

abbrev pub invariant-loop-module : goal.invariant-loop-module
invariant-loop-module l = l.all.items ++ types_seen (plain_names l.self) l.own l.types (drop l.module-index l.modules) ≡ types_seen (plain_names l.self) l.own l.types l.modules
