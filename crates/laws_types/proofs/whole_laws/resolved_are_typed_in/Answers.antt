use Rattle.laws_types.proofs.ResolvedClauses.{resolved_are_typed_in, resolved_queries_are_typed}
use Rattle.laws_types.proofs.whole_laws.resolved_are_typed_in.Goals as goal

pub returns-clause-clauses : goal.returns-clause-clauses
returns-clause-clauses c = resolved_are_typed_in

pub returns-clause-queries : goal.returns-clause-queries
returns-clause-queries c = resolved_queries_are_typed
