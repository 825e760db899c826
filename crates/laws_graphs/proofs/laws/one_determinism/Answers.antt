use Rattle.laws_graphs.proofs.Telling.{one-determinism}
use Rattle.laws_graphs.proofs.laws.one_determinism.Goals as goal

pub returns : goal.returns
returns c = one-determinism
