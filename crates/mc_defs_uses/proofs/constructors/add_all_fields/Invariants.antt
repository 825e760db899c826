use Rattle.std.proofs.Common.{◌≡◌, ◌++◌, drop, map}
use Rattle.mc_term_data.specs.Plain.{plain_term, term_list}
use Rattle.mc_names.specs.Plain.{plain_occurrence}
use Rattle.mc_defs_uses.specs.Occurrences.{all_fields}
use Rattle.mc_defs_uses.proofs.constructors.add_all_fields.Given as goal

abbrev pub invariant-loop-term : goal.invariant-loop-term
invariant-loop-term l =
    map plain_occurrence l.uses.items ++ all_fields (term_list (map plain_term (drop l.term-index l.terms))) ≡ map plain_occurrence l.initial.uses.items ++ all_fields (term_list (map plain_term l.terms))
