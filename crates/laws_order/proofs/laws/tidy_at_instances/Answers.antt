use Rattle.laws_order.proofs.TidyInsts.{tidy-at-instances}
use Rattle.laws_order.proofs.laws.tidy_at_instances.Goals as goal

pub returns : goal.returns
returns c = tidy-at-instances
