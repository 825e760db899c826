use Rattle.std.proofs.Common.{◌≡◌, ◌++◌, drop, map}
use Rattle.mc_modules.specs.Linked.{visible}
use Rattle.mc_names.specs.Linked.{plain_named}
use Rattle.mc_modules.proofs.by_module.ByModule.visible.Given as goal

abbrev pub invariant-loop-module : goal.invariant-loop-module
invariant-loop-module l = l.all.items ++ visible l.own (drop l.module-index l.seen) (map (map plain_named) l.self.has.items) ≡ visible l.own l.seen (map (map plain_named) l.self.has.items)
