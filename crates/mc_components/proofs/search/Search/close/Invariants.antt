use Rattle.std.proofs.Common.{vec_len}
use Rattle.mc_components.proofs.search.Search.close.Given as goal

abbrev pub decreases-loop-node : goal.decreases-loop-node
decreases-loop-node l = vec_len l.self.open
