use Rattle.laws_types.proofs.Clauses.{candidates_are_there}
use Rattle.laws_types.proofs.clause_laws.candidates_are_there.Goals as goal

pub returns : goal.returns
returns c = candidates_are_there
