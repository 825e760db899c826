use Rattle.laws_types.proofs.Clauses.{clauses_name_their_own, queries_name_their_own}
use Rattle.laws_types.proofs.clause_laws.clauses_name_their_own.Goals as goal

pub returns-clause-clauses : goal.returns-clause-clauses
returns-clause-clauses c = clauses_name_their_own

pub returns-clause-queries : goal.returns-clause-queries
returns-clause-queries c = queries_name_their_own
