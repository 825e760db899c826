use Rattle.laws_order.proofs.TruthOfNodes.{premises-are-met}
use Rattle.laws_order.proofs.examples.premises.Goals as goal

pub returns : goal.returns
returns c = premises-are-met
