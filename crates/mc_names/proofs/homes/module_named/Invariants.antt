use Rattle.std.proofs.Common.{◌≡◌, drop}
use Rattle.mc_names.specs.Linked.{module_from}
use Rattle.mc_names.proofs.homes.module_named.Given as goal

abbrev pub invariant-loop-scope : goal.invariant-loop-scope
invariant-loop-scope l =
    (l.number ≡ l.scope-index)
    × (module_from l.number l.name (drop l.scope-index l.scopes) ≡ module_from 0 l.name l.scopes)
