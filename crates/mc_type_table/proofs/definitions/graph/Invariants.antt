use Rattle.std.proofs.Common.{◌≡◌, map, take}
use Rattle.std.specs.Option.{option_map}
use Rattle.mc_program.specs.PlainPrograms.{plain_type}
use Rattle.mc_type_table.specs.Rules.{types_in_body}
use Rattle.mc_type_table.proofs.definitions.graph.Given as goal

abbrev pub invariant-loop-body : goal.invariant-loop-body
invariant-loop-body l =
    l.rows.items
    ≡ map (λ t. types_in_body (option_map plain_type t)) (take l.body-index l.bodies)
