use Rattle.laws_types.proofs.JudgedClauses.{judged_clauses_are_typed, judged_queries_are_typed}
use Rattle.laws_types.proofs.whole_laws.judged_are_typed.Goals as goal

pub returns-clause-clauses : goal.returns-clause-clauses
returns-clause-clauses c = judged_clauses_are_typed

pub returns-clause-queries : goal.returns-clause-queries
returns-clause-queries c = judged_queries_are_typed
