use Rattle.std.proofs.Common.{◌≡◌, ◌++◌, map}
use Rattle.mc_modules.specs.Linked.{flat}
use Rattle.mc_names.specs.Linked.{plain_named}
use Rattle.mc_modules.proofs.by_module.ByModule.flat.Given as goal

abbrev pub invariant-loop-names : goal.invariant-loop-names
invariant-loop-names l = map plain_named l.all.items ++ flat (map (map plain_named) l.names-iterator.rest.items) ≡ flat (map (map plain_named) l.fn.self.has.items)
