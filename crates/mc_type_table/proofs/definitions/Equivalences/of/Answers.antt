use Rattle.std.proofs.Common.{map, refl, ap, ◌∙◌}
use Rattle.std.specs.Option.{option_map}
use Rattle.mc_program.specs.PlainPrograms.{plain_type}
use Rattle.mc_type_table.specs.Rules.{types_in_body}
use Rattle.mc_type_table.proofs.Defining.{are_equivalences}
use Rattle.mc_type_table.proofs.definitions.Equivalences.of.Goals as goal

pub returns : goal.returns
returns c =
    are_equivalences c.args.names.now c.in_ok-bodies.bodies.items c.in_ok-graph.graph _
    c.in_ok-bodies.ensures
    (c.in_ok-graph.ensures
    ∙ ap (map (λ t. types_in_body (option_map plain_type t))) c.as_slice.ensures.value)
    refl refl c.in_ok-components.ensures.count c.in_ok-components.ensures.alike
