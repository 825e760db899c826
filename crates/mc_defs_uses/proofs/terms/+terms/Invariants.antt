use Rattle.std.proofs.Common.{◌≡◌, ◌∷◌, ◌++◌, [], ◌+◌, ◌*◌, max, drop, map}
use denote.Param.Weighed.{most}
use Rattle.mc_term_data.specs.Plain.{plain_term, term_list}
use Rattle.mc_term_data.specs.declared.term.Term.{size-Term}
use Rattle.mc_names.specs.Plain.{plain_occurrence}
use Rattle.mc_defs_uses.specs.Occurrences.{all_terms}
use Rattle.mc_defs_uses.specs.code.Steps.{behind}
use Rattle.mc_defs_uses.proofs.terms.+terms.Given as goal

abbrev pub decreases-add_terms : goal.decreases-add_terms
decreases-add_terms l = 4 * size-Term l.term.now

abbrev pub decreases-add_over : goal.decreases-add_over
decreases-add_over l = 4 * most size-Term l.arguments.now + 2

abbrev pub decreases-add_all_terms : goal.decreases-add_all_terms
decreases-add_all_terms l = 4 * most size-Term l.terms.now + 1

abbrev pub decreases-add_list : goal.decreases-add_list
decreases-add_list l = 4 * most size-Term l.elements.now + 2

abbrev pub decreases-add_list_before : goal.decreases-add_list_before
decreases-add_list_before l = 4 * max (most size-Term l.elements.now) (size-Term l.tail.now) + 2

abbrev pub decreases-add_between : goal.decreases-add_between
decreases-add_between l = 4 * most size-Term l.parts.now + 2

abbrev pub decreases-add_behind : goal.decreases-add_behind
decreases-add_behind l = 4 * most size-Term l.terms.now + 1

abbrev pub invariant-add_all_terms-loop-term : goal.invariant-add_all_terms-loop-term
invariant-add_all_terms-loop-term l =
    map plain_occurrence l.uses.items ++ all_terms (term_list (map plain_term (drop l.term-index l.terms))) ≡ map plain_occurrence l.initial.uses.items ++ all_terms (term_list (map plain_term l.terms))

abbrev pub invariant-add_behind-loop-term : goal.invariant-add_behind-loop-term
invariant-add_behind-loop-term l =
    map plain_occurrence l.uses.items ++ behind (l.name ∷ []) (term_list (map plain_term (drop l.term-index l.terms))) ≡ map plain_occurrence l.initial.uses.items ++ behind (l.name ∷ []) (term_list (map plain_term l.terms))
