use Rattle.std.proofs.Common.{◌≡◌, ◌++◌, map, drop}
use Rattle.mc_names.specs.Linked.{plain_names}
use Rattle.mc_signatures.specs.WrittenModes.{plain_written, modes_among}
use Rattle.mc_signatures.specs.code.ByName.{entry_behind}
use Rattle.mc_signatures.specs.code.Callables.{plain_callable}
use Rattle.mc_signatures.proofs.declared.modes_among.Given as goal

abbrev pub invariant-loop-entry : goal.invariant-loop-entry
invariant-loop-entry l =
    map plain_written l.modes.items
    ++ modes_among (plain_names l.names) l.own (plain_callable l.wanted) (map entry_behind (drop l.entry-index l.entries))
    ≡ modes_among (plain_names l.names) l.own (plain_callable l.wanted) (map entry_behind l.entries)
