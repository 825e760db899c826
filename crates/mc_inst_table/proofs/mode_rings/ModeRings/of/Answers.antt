use Rattle.std.proofs.Common.{refl}
use Rattle.mc_inst_table.proofs.Leading.{are_rings}
use Rattle.mc_inst_table.proofs.mode_rings.ModeRings.of.Goals as goal

pub returns : goal.returns
returns c =
    are_rings c.args.names.now c.in_ok-graph.graph _ c.in_ok-graph.ensures refl
    c.in_ok-components.ensures.count c.in_ok-components.ensures.alike
