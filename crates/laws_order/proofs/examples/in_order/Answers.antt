use Rattle.laws_order.proofs.OnesInOrder.{ones-in-order}
use Rattle.laws_order.proofs.examples.in_order.Goals as goal

pub returns : goal.returns
returns c = ones-in-order
