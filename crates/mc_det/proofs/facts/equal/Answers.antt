use Rattle.mc_det.proofs.Knowing.{values_tell}
use Rattle.mc_det.proofs.facts.equal.Goals as goal

pub returns : goal.returns
returns c = values_tell c.same_value.result c.args.a.now c.args.b.now c.same_value.ensures
