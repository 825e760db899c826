use Rattle.laws_order.proofs.OneOrder.{one-order}
use Rattle.laws_order.proofs.laws.one_order.Goals as goal

pub returns : goal.returns
returns c = one-order
