use Rattle.std.proofs.Common.{◌≡◌, map, take, Some}
use Rattle.mc_names.specs.Linked.{plain_named, plain_names}
use Rattle.mc_type_table.specs.Rules.{types_in_all}
use Rattle.mc_type_table.specs.Held.{held}
use Rattle.mc_type_table.specs.code.Grown.{grown_in_all}
use Rattle.mc_type_table.specs.code.Kept.{contents}
use Rattle.mc_type_table.proofs.bodies.rows_of_all.Given as goal

abbrev pub invariant-loop-named : goal.invariant-loop-named
invariant-loop-named l =
    (l.rows.types.items
    ≡ map
    (λ n. types_in_all (contents (held l.definitions) (plain_names l.names) (Some (plain_named n))))
    (take l.named-index l.names.types))
    × (l.rows.grown.items
    ≡ map
    (λ n. grown_in_all (contents (held l.definitions) (plain_names l.names) (Some (plain_named n))))
    (take l.named-index l.names.types))
