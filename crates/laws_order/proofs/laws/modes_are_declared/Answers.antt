use Rattle.laws_order.proofs.DeclaredModes.{modes-are-declared}
use Rattle.laws_order.proofs.laws.modes_are_declared.Goals as goal

pub returns : goal.returns
returns c = modes-are-declared
