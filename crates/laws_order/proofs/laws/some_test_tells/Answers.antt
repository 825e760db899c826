use Rattle.laws_order.proofs.SomeTest.{some_test_tells, nodes_are_told}
use Rattle.laws_order.proofs.laws.some_test_tells.Goals as goal

pub returns-clause-insts : goal.returns-clause-insts
returns-clause-insts c = some_test_tells

pub returns-clause-nodes : goal.returns-clause-nodes
returns-clause-nodes c = nodes_are_told
