use Rattle.laws_types.proofs.Typing.{resolved_clauses}
use Rattle.laws_types.proofs.examples.resolved_clauses.Goals as goal

pub returns : goal.returns
returns c = resolved_clauses
