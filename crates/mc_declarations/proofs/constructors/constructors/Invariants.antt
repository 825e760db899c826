use Rattle.std.proofs.Common.{◌≡◌, ◌++◌, map, drop}
use Rattle.mc_program.specs.PlainPrograms.{plain_symbol}
use Rattle.mc_names.specs.Linked.{plain_named, plain_names}
use Rattle.mc_type_table.specs.Held.{held}
use Rattle.mc_declarations.specs.code.With.{all_with}
use Rattle.mc_declarations.proofs.constructors.constructors.Given as goal

abbrev pub invariant-loop-named : goal.invariant-loop-named
invariant-loop-named l =
    (l.number ≡ l.named-index)
    × (map plain_symbol l.all.items
    ++ all_with (plain_names l.at.names.now) (held l.at.definitions.now) l.number
    (map plain_named (drop l.named-index l.types))
    ≡ all_with (plain_names l.at.names.now) (held l.at.definitions.now) 0
    (map plain_named l.types))
