use Rattle.laws_order.proofs.NormalScopes.{normal_order_is_ordered}
use Rattle.laws_order.proofs.laws.normal_order_is_ordered.Goals as goal

pub returns : goal.returns
returns c = normal_order_is_ordered
