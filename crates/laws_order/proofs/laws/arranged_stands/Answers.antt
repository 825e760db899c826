use Rattle.laws_order.proofs.ArrangedGoals.{arranged-stands}
use Rattle.laws_order.proofs.laws.arranged_stands.Goals as goal

pub returns : goal.returns
returns c = arranged-stands
