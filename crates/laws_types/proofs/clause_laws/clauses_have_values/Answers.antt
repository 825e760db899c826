use Rattle.laws_types.proofs.Clauses.{clauses_have_values}
use Rattle.laws_types.proofs.clause_laws.clauses_have_values.Goals as goal

pub returns : goal.returns
returns c = clauses_have_values
