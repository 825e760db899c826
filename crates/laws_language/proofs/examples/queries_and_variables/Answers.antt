use Rattle.std.proofs.Common.{refl}
use Rattle.laws_language.proofs.examples.queries_and_variables.Goals as goal

pub returns-clause-queries : goal.returns-clause-queries
returns-clause-queries c = (refl, refl, refl, refl, (λ e. cc))

pub returns-clause-variables : goal.returns-clause-variables
returns-clause-variables c = (refl, refl, (λ e. cc))
