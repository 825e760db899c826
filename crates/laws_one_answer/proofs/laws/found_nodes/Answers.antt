use Rattle.laws_one_answer.proofs.FoundNodes.{found-nodes}
use Rattle.laws_one_answer.proofs.laws.found_nodes.Goals as goal

pub returns : goal.returns
returns c = found-nodes c.some_test_tells.ensures.insts c.some_test_tells.ensures.nodes
