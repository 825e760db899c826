use Rattle.laws_types.proofs.Procedures.{typed_clauses_fit, typed_goals_fit}
use Rattle.laws_types.proofs.laws.typed_clauses_fit.Goals as goal

pub returns-clause-clauses : goal.returns-clause-clauses
returns-clause-clauses c = typed_clauses_fit

pub returns-clause-goals : goal.returns-clause-goals
returns-clause-goals c = typed_goals_fit
