use Rattle.std.proofs.Common.{refl}
use Rattle.mc_signatures.proofs.Kept.{are_definitions}
use Rattle.mc_signatures.proofs.meant.Definitions.of.Goals as goal

pub returns : goal.returns
returns c =
    are_definitions c.args.names.now c.in_ok-insts.insts c.in_ok-modes.modes.items
    (record { insts = c.in_ok-insts.insts; modes = c.in_ok-modes.modes })
    c.in_ok-insts.ensures c.in_ok-modes.ensures refl refl
