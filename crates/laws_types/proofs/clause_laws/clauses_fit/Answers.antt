use Rattle.laws_types.proofs.Fitting.{clauses_fit, predicates_are_there, constructors_are_linked}
use Rattle.laws_types.proofs.clause_laws.clauses_fit.Goals as goal

pub returns-clause-clauses : goal.returns-clause-clauses
returns-clause-clauses c = clauses_fit

pub returns-clause-preds : goal.returns-clause-preds
returns-clause-preds c = predicates_are_there

pub returns-clause-constructors : goal.returns-clause-constructors
returns-clause-constructors c = constructors_are_linked
