use Rattle.std.proofs.Common.{◌≡◌, ◌++◌, drop, map}
use Rattle.mc_term_data.specs.Plain.{plain_term, term_list}
use Rattle.mc_clause_syntax.specs.States.{names_of, states_in_all}
use Rattle.mc_clause_syntax.proofs.state_names.+states.Given as goal

abbrev pub invariant-push_all_states-loop-term : goal.invariant-push_all_states-loop-term
invariant-push_all_states-loop-term l =
    names_of l.names.items ++ states_in_all l.wanted (term_list (map plain_term (drop l.term-index l.terms))) ≡ names_of l.initial.names.items ++ states_in_all l.wanted (term_list (map plain_term l.terms))
