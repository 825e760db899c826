use Rattle.mc_modes.proofs.FreeInputs.{free-is}
use Rattle.mc_modes.proofs.inputs.is_free.Goals as goal

pub returns-then-inst-eq-FREE : goal.returns-then-inst-eq-FREE
returns-then-inst-eq-FREE c = free-is c.args.state.now c.args.others.now c.args.x c.inst.result c.has.result c.requires c.inst.ensures c.if-inst-eq-FREE.true c.has.ensures
