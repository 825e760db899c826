use Rattle.std.proofs.Common.{◌∙◌, refl}
use Rattle.mc_type_table.specs.Held.{held}
use Rattle.mc_type_table.proofs.Grouping.{are_bodies}
use Rattle.mc_type_table.proofs.bodies.Bodies.of.Goals as goal

pub returns : goal.returns
returns c =
    are_bodies c.args.names.now (held c.args.definitions.now) c.in_ok-graph.graph _
    (c.in_ok-graph.ensures.elements ∙ c.in_ok-types.ensures.types)
    (c.in_ok-grown.ensures.elements ∙ c.in_ok-types.ensures.grown)
    refl c.in_ok-components.ensures.count c.in_ok-components.ensures.alike
