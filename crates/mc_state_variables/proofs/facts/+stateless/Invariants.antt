use Rattle.std.proofs.Common.{◌≡◌, drop, map}
use Rattle.mc_term_data.specs.Plain.{plain_term, term_list}
use Rattle.mc_state_variables.specs.code.Stateless.{all_stateless}
use Rattle.mc_state_variables.proofs.facts.+stateless.Given as goal

abbrev pub invariant-are_stateless-loop-term : goal.invariant-are_stateless-loop-term
invariant-are_stateless-loop-term l =
    all_stateless (term_list (map plain_term (drop l.term-index l.terms))) ≡ all_stateless (term_list (map plain_term l.terms))
