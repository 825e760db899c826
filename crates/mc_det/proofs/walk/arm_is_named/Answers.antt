use Rattle.std.proofs.Common.{length}
use Rattle.mc_det.specs.code.Walks.{bounds_in}
use Rattle.mc_det.proofs.Naming.{arm_item_named}
use Rattle.mc_det.proofs.walk.arm_is_named.Goals as goal

pub returns : goal.returns
returns c =
    arm_item_named (bounds_in c.args.procs.now (length c.args.types.now)) c.args.arms.now c.requires.among.0 c.args.arm.now c.requires.among.2 c.requires.among.1 c.requires.all
