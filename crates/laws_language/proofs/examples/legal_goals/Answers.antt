use Rattle.std.proofs.Common.{refl}
use Rattle.laws_language.proofs.LegalGoals.{has_is_accepted, builtin_alone, switch_through_some, branches_under_some, negation_in_negation}
use Rattle.laws_language.proofs.examples.legal_goals.Goals as goal

pub returns-clause-condition_answers_once : goal.returns-clause-condition_answers_once
returns-clause-condition_answers_once c = (has_is_accepted, (refl, refl))

pub returns-clause-builtin_alone : goal.returns-clause-builtin_alone
returns-clause-builtin_alone c = builtin_alone

pub returns-clause-switch_through_some : goal.returns-clause-switch_through_some
returns-clause-switch_through_some c = switch_through_some

pub returns-clause-branches_under_some : goal.returns-clause-branches_under_some
returns-clause-branches_under_some c = branches_under_some

pub returns-clause-negation_in_negation : goal.returns-clause-negation_in_negation
returns-clause-negation_in_negation c = negation_in_negation

pub returns-clause-free_variables : goal.returns-clause-free_variables
returns-clause-free_variables c = (refl, refl, refl, (λ e. cc))
