use Rattle.std.proofs.Common.{refl}
use Rattle.laws_order.proofs.examples.compound_orders.Goals as goal

pub returns-clause-conditions : goal.returns-clause-conditions
returns-clause-conditions c = (refl, refl, refl, refl, (λ e. cc))

pub returns-clause-negations : goal.returns-clause-negations
returns-clause-negations c = (refl, refl, (λ e. cc))
