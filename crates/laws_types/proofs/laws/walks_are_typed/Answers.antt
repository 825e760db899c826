use Rattle.laws_types.proofs.WalkedClauses.{walks_are_typed}
use Rattle.laws_types.proofs.laws.walks_are_typed.Goals as goal

pub returns : goal.returns
returns c = walks_are_typed
