use Rattle.std.proofs.Common.{◌∙◌}
use Rattle.mc_procs.specs.Procedures.{insts_of}
use Rattle.mc_det.proofs.BoundOutside.{constants_at}
use Rattle.mc_switch.proofs.parts.takes_constants.Goals as goal

pub returns : goal.returns
returns c = c.is_whole.ensures ∙ constants_at (insts_of c.args.procs.now) c.fit.ensures.all.program.insts_are.insts c.args.i
