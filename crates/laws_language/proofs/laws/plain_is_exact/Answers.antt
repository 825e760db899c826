use Rattle.laws_language.proofs.TermViews.{plain_is_exact, plain_types_are_exact, plain_terms_are_exact}
use Rattle.laws_language.proofs.laws.plain_is_exact.Goals as goal

pub returns-clause-values : goal.returns-clause-values
returns-clause-values c = plain_is_exact

pub returns-clause-types : goal.returns-clause-types
returns-clause-types c = plain_types_are_exact

pub returns-clause-terms : goal.returns-clause-terms
returns-clause-terms c = plain_terms_are_exact
