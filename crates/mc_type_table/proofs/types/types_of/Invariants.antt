use Rattle.std.proofs.Common.{◌≡◌, ◌++◌, drop, map}
use Rattle.mc_names.specs.Linked.{plain_named}
use Rattle.mc_type_table.specs.Table.{table_from}
use Rattle.mc_type_table.proofs.types.types_of.Given as goal

abbrev pub invariant-loop-named : goal.invariant-loop-named
invariant-loop-named l =
    l.types.items ++ table_from l.first (map plain_named (drop l.named-index l.all))
    ≡ table_from 0 (map plain_named l.all)
