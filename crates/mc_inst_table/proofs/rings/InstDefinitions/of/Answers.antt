use Rattle.std.proofs.Common.{refl}
use Rattle.mc_inst_table.proofs.Knowing.{are_definitions}
use Rattle.mc_inst_table.proofs.rings.InstDefinitions.of.Goals as goal

pub returns : goal.returns
returns c =
    are_definitions c.args.names.now c.in_ok-bodies.bodies c.in_ok-needs.needs.items c.in_ok-heads.heads
    c.in_ok-inside.inside c.in_ok-graph.graph _ c.in_ok-bodies.ensures c.in_ok-needs.ensures.full
    c.in_ok-needs.ensures.needs c.in_ok-heads.ensures.heads c.in_ok-heads.ensures.settled
    c.in_ok-inside.ensures.inside c.in_ok-inside.ensures.closed c.in_ok-graph.ensures refl refl refl refl refl
    c.in_ok-components.ensures.count c.in_ok-components.ensures.alike
