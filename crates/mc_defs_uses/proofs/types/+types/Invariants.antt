use Rattle.std.proofs.Common.{◌≡◌, ◌+◌, ◌*◌, ◌++◌, drop, map}
use denote.Param.Weighed.{most}
use Rattle.mc_term_data.specs.Plain.{plain_term, term_list}
use Rattle.mc_term_data.specs.declared.term.Term.{size-Term}
use Rattle.mc_names.specs.Plain.{plain_occurrence}
use Rattle.mc_defs_uses.specs.Occurrences.{all_types}
use Rattle.mc_defs_uses.proofs.types.+types.Given as goal

abbrev pub decreases-add_types : goal.decreases-add_types
decreases-add_types l = 3 * size-Term l.term.now

abbrev pub decreases-add_types_over : goal.decreases-add_types_over
decreases-add_types_over l = 3 * most size-Term l.arguments.now + 2

abbrev pub decreases-add_all_types : goal.decreases-add_all_types
decreases-add_all_types l = 3 * most size-Term l.terms.now + 1

abbrev pub invariant-add_all_types-loop-term : goal.invariant-add_all_types-loop-term
invariant-add_all_types-loop-term l =
    map plain_occurrence l.uses.items ++ all_types (term_list (map plain_term (drop l.term-index l.terms))) ≡ map plain_occurrence l.initial.uses.items ++ all_types (term_list (map plain_term l.terms))
