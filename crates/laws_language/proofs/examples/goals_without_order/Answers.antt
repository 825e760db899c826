use Rattle.laws_language.proofs.NoOrder.{goals_without_order}
use Rattle.laws_language.proofs.examples.goals_without_order.Goals as goal

pub returns : goal.returns
returns c = goals_without_order
