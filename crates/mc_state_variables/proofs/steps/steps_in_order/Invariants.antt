use Rattle.std.proofs.Common.{◌≡◌, ◌≤◌, drop, map, length, reverse}
use Rattle.mc_term_data.specs.Plain.{plain_term, term_list}
use Rattle.mc_state_variables.specs.code.Steps.{seen_in, steps_of}
use Rattle.mc_state_variables.proofs.steps.steps_in_order.Given as goal

abbrev pub invariant-back : goal.invariant-back
invariant-back l = record {
  within : l.k ≤ length l.goals;
  seen : l.seen ≡ seen_in (term_list (map plain_term (drop l.k l.goals)));
  steps : l.steps.items ≡ reverse (steps_of (term_list (map plain_term (drop l.k l.goals))));
}

abbrev pub decreases-back : goal.decreases-back
decreases-back l = l.k
