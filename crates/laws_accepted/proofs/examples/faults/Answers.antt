use Rattle.std.proofs.Common.{refl}
use Rattle.std.specs.Fmt.{digits}
use Rattle.laws_accepted.proofs.examples.faults.Goals as goal

pub returns-clause-not_allowed : goal.returns-clause-not_allowed
returns-clause-not_allowed c = (refl, refl, refl, refl, refl, refl, (λ e. cc))

pub returns-clause-undeclared : goal.returns-clause-undeclared
unfolding digits
returns-clause-undeclared c = (refl, refl, refl, (λ e. cc))

pub returns-clause-calls : goal.returns-clause-calls
unfolding digits
returns-clause-calls c = (refl, refl, refl, refl, refl, refl, refl, (λ e. cc))

pub returns-clause-io : goal.returns-clause-io
returns-clause-io c = (refl, refl, refl, refl, refl, (λ e. cc))

pub returns-clause-contexts : goal.returns-clause-contexts
unfolding digits
returns-clause-contexts c = (refl, refl, refl, refl, refl, refl, refl, (λ e. cc))
