use Rattle.laws_graphs.proofs.Faults.{one-least}
use Rattle.laws_graphs.proofs.laws.one_least.Goals as goal

pub returns : goal.returns
returns c = one-least
