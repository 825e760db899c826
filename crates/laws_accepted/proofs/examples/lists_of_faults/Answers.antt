use Rattle.std.proofs.Common.{refl}
use Rattle.std.specs.Fmt.{digits}
use Rattle.laws_accepted.proofs.examples.lists_of_faults.Goals as goal

pub returns-clause-main : goal.returns-clause-main
returns-clause-main c = (refl, refl, refl, refl, refl, refl, refl, (λ e. cc))

pub returns-clause-order : goal.returns-clause-order
unfolding digits
returns-clause-order c = (refl, refl, refl, (λ e. cc))
