use Rattle.laws_one_answer.proofs.MeantNodes.{meant-nodes-mean-one}
use Rattle.laws_one_answer.proofs.laws.meant_nodes_mean_one.Goals as goal

pub returns : goal.returns
returns c = meant-nodes-mean-one
