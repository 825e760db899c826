use Rattle.std.proofs.Common.{refl}
use Rattle.laws_order.proofs.examples.orders.Goals as goal

pub returns-clause-needed_first : goal.returns-clause-needed_first
returns-clause-needed_first c = (refl, (λ e. cc))

pub returns-clause-modes_chosen : goal.returns-clause-modes_chosen
returns-clause-modes_chosen c = (refl, refl, refl, refl, (λ e. cc))

pub returns-clause-lists_taken_apart : goal.returns-clause-lists_taken_apart
returns-clause-lists_taken_apart c = (refl, refl, (λ e. cc))

pub returns-clause-results_compared : goal.returns-clause-results_compared
returns-clause-results_compared c = (refl, (λ e. cc))

pub returns-clause-states_in_turn : goal.returns-clause-states_in_turn
returns-clause-states_in_turn c = (refl, (λ e. cc))

pub returns-clause-states_compared : goal.returns-clause-states_compared
returns-clause-states_compared c = (refl, refl, (λ e. cc))
