use Rattle.laws_types.proofs.Clauses.{clauses_have_names, queries_have_names}
use Rattle.laws_types.proofs.clause_laws.clauses_have_names.Goals as goal

pub returns-clause-clauses : goal.returns-clause-clauses
returns-clause-clauses c = clauses_have_names

pub returns-clause-queries : goal.returns-clause-queries
returns-clause-queries c = queries_have_names
