use Rattle.std.proofs.Common.{refl}
use Rattle.std.specs.Int.{int_wrap}
use Rattle.laws_language.proofs.examples.limits.Goals as goal

pub returns-clause-budgets : goal.returns-clause-budgets
unfolding int_wrap
returns-clause-budgets c = ((refl, refl), (refl, refl), (refl, refl), (λ e. cc))

pub returns-clause-depths : goal.returns-clause-depths
unfolding int_wrap
returns-clause-depths c = ((refl, refl), (refl, refl), (λ e. cc))
