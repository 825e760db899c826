use Rattle.laws_language.proofs.Scopes.{scoped_has_scopes, clauses_are_scoped, written_scopes_stay, scoped_once}
use Rattle.laws_language.proofs.laws.scopes_are_written_out.Goals as goal

pub returns-clause-goals : goal.returns-clause-goals
returns-clause-goals c = scoped_has_scopes

pub returns-clause-clauses : goal.returns-clause-clauses
returns-clause-clauses c = clauses_are_scoped

pub returns-clause-stay : goal.returns-clause-stay
returns-clause-stay c = written_scopes_stay

pub returns-clause-once : goal.returns-clause-once
returns-clause-once c = scoped_once
