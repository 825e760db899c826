use Rattle.std.proofs.Common.{◌≡◌, ◌++◌, drop, map}
use Rattle.mc_term_data.specs.Plain.{plain_term, term_list}
use Rattle.mc_clause_syntax.specs.States.{names_of, quantified_in}
use Rattle.mc_clause_syntax.proofs.state_names.push_each_state.Given as goal

abbrev pub invariant-loop-term : goal.invariant-loop-term
invariant-loop-term l =
    names_of l.names.items ++ quantified_in (term_list (map plain_term (drop l.term-index l.terms))) ≡ names_of l.initial.names.items ++ quantified_in (term_list (map plain_term l.terms))
