use Rattle.std.proofs.Common.{◌≡◌, map, take, Some}
use Rattle.std.specs.Option.{option_map}
use Rattle.mc_program.specs.PlainPrograms.{plain_type}
use Rattle.mc_names.specs.Linked.{plain_named, plain_names}
use Rattle.mc_type_table.specs.Expanded.{equivalent_of}
use Rattle.mc_type_table.proofs.definitions.bodies.Given as goal

abbrev pub invariant-loop-named : goal.invariant-loop-named
invariant-loop-named l =
    map (λ t. option_map plain_type t) l.all.items
    ≡ map (λ n. equivalent_of (plain_names l.names) (Some (plain_named n)))
    (take l.named-index l.names.types)
