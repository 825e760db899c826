use Rattle.std.proofs.Common.{refl}
use Rattle.laws_order.proofs.examples.determinisms.Goals as goal

pub returns-clause-negations : goal.returns-clause-negations
returns-clause-negations c = (refl, refl, refl, refl, (λ e. cc))

pub returns-clause-branches : goal.returns-clause-branches
returns-clause-branches c = (refl, refl, refl, (λ e. cc))

pub returns-clause-append : goal.returns-clause-append
returns-clause-append c = (refl, refl, (λ e. cc))
