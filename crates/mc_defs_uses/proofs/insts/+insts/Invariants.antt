use Rattle.std.proofs.Common.{◌≡◌, ◌++◌, ◌+◌, ◌*◌, max, drop, map}
use denote.Param.Weighed.{most}
use Rattle.mc_term_data.specs.Plain.{plain_term, term_list}
use Rattle.mc_term_data.specs.declared.term.Term.{size-Term}
use Rattle.mc_names.specs.Plain.{plain_occurrence}
use Rattle.mc_defs_uses.specs.Occurrences.{all_insts, all_symbols}
use Rattle.mc_defs_uses.proofs.insts.+insts.Given as goal

abbrev pub decreases-add_insts : goal.decreases-add_insts
decreases-add_insts l = 4 * size-Term l.term.now

abbrev pub decreases-add_insts_over : goal.decreases-add_insts_over
decreases-add_insts_over l = 4 * most size-Term l.arguments.now + 3

abbrev pub decreases-add_named_inst : goal.decreases-add_named_inst
decreases-add_named_inst l = 4 * most size-Term l.arguments.now + 2

abbrev pub decreases-add_all_insts : goal.decreases-add_all_insts
decreases-add_all_insts l = 4 * most size-Term l.terms.now + 1

abbrev pub decreases-add_symbols : goal.decreases-add_symbols
decreases-add_symbols l = 4 * size-Term l.term.now + 1

abbrev pub decreases-add_insts_and : goal.decreases-add_insts_and
decreases-add_insts_and l = 4 * max (most size-Term l.insts.now) (size-Term l.tail.now) + 2

abbrev pub decreases-add_all_symbols : goal.decreases-add_all_symbols
decreases-add_all_symbols l = 4 * most size-Term l.terms.now + 2

abbrev pub invariant-add_all_insts-loop-term : goal.invariant-add_all_insts-loop-term
invariant-add_all_insts-loop-term l =
    map plain_occurrence l.uses.items ++ all_insts (term_list (map plain_term (drop l.term-index l.terms))) ≡ map plain_occurrence l.initial.uses.items ++ all_insts (term_list (map plain_term l.terms))

abbrev pub invariant-add_all_symbols-loop-term : goal.invariant-add_all_symbols-loop-term
invariant-add_all_symbols-loop-term l =
    map plain_occurrence l.uses.items ++ all_symbols (term_list (map plain_term (drop l.term-index l.terms))) ≡ map plain_occurrence l.initial.uses.items ++ all_symbols (term_list (map plain_term l.terms))
