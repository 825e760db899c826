use Rattle.std.proofs.Common.{length, arith}
use Rattle.mc_model.specs.declared.inst.InstRef.TheVariants.{Old}
use Rattle.mc_insts.proofs.Definitions.{args_fit}
use Rattle.mc_insts.proofs.bounds.args_of.Goals as goal

pub inst_of-requires : goal.inst_of-requires
inst_of-requires c = (
  c.requires.0,
  args_fit c.requires.0 (length c.args.insts.now) c.args.args.now c.requires.1 c.loop-arg.arg-index (Old 0) (omega arith),
)
