use Rattle.laws_order.proofs.MarkedGoals.{standing-is-ordered}
use Rattle.laws_order.proofs.laws.standing_is_ordered.Goals as goal

pub returns : goal.returns
returns c = standing-is-ordered
