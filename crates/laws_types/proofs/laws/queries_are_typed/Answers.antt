use Rattle.laws_types.proofs.Queries.{queries_are_typed}
use Rattle.laws_types.proofs.laws.queries_are_typed.Goals as goal

pub returns : goal.returns
returns c = queries_are_typed
