use Rattle.laws_order.proofs.NormalScopes.{normal_goals_scoped}
use Rattle.laws_order.proofs.laws.normal_goals_are_scoped.Goals as goal

pub returns : goal.returns
returns c = normal_goals_scoped
