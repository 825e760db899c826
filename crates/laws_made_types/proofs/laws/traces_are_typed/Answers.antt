use Rattle.laws_made_types.proofs.TracedClauses.{traces_are_typed}
use Rattle.laws_made_types.proofs.laws.traces_are_typed.Goals as goal

pub returns : goal.returns
returns c = traces_are_typed
