use Rattle.laws_graphs.proofs.NodesMeanOne.{builtin-nodes-mean-one}
use Rattle.laws_graphs.proofs.laws.builtin_nodes_mean_one.Goals as goal

pub returns : goal.returns
returns c = builtin-nodes-mean-one
