use Rattle.laws_order.proofs.EndsMet.{in-order-is-ordered}
use Rattle.laws_order.proofs.laws.in_order_is_ordered.Goals as goal

pub returns : goal.returns
returns c = in-order-is-ordered
