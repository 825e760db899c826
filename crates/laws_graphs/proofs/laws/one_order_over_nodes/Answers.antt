use Rattle.laws_graphs.proofs.NodesMeanOne.{one-order-over-nodes}
use Rattle.laws_graphs.proofs.laws.one_order_over_nodes.Goals as goal

pub returns : goal.returns
returns c = one-order-over-nodes
