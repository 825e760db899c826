use Rattle.laws_order.proofs.ListsTold.{lists_are_told}
use Rattle.laws_order.proofs.examples.tests.Goals as goal

pub returns : goal.returns
returns c = lists_are_told
