use Rattle.std.proofs.Common.{◌≡◌, ◌≤◌, drop, map, length, reverse}
use Rattle.mc_term_data.specs.Plain.{plain_term, term_list}
use Rattle.mc_clause_syntax.specs.States.{names_of}
use Rattle.mc_state_variables.specs.code.Steps.{seen_in, wholes_of}
use Rattle.mc_state_variables.proofs.steps.wholes.Given as goal

abbrev pub invariant-back : goal.invariant-back
invariant-back l = record {
  within : l.k ≤ length l.goals;
  seen : l.seen ≡ seen_in (term_list (map plain_term (drop l.k l.goals)));
  order : names_of l.distinct.items ≡ l.seen;
  wholes : l.wholes.items ≡ reverse (wholes_of (term_list (map plain_term (drop l.k l.goals))));
}

abbrev pub decreases-back : goal.decreases-back
decreases-back l = l.k
