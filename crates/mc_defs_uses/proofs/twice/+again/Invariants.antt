use Rattle.std.proofs.Common.{◌≡◌, [], ◌+◌, ◌*◌, max, drop, map}
use denote.Param.Weighed.{most}
use Rattle.mc_term_data.specs.Plain.{plain_term, term_list}
use Rattle.mc_term_data.specs.declared.term.Term.{size-Term}
use Rattle.mc_defs_uses.specs.Twice.{again_in_all, again_symbols}
use Rattle.mc_defs_uses.proofs.twice.+again.Given as goal

abbrev pub decreases-again_in : goal.decreases-again_in
decreases-again_in l = 4 * size-Term l.term.now

abbrev pub decreases-again_over : goal.decreases-again_over
decreases-again_over l = 4 * most size-Term l.arguments.now + 3

abbrev pub decreases-again_in_all : goal.decreases-again_in_all
decreases-again_in_all l = 4 * most size-Term l.terms.now + 1

abbrev pub decreases-again_bound : goal.decreases-again_bound
decreases-again_bound l = 4 * size-Term l.term.now + 1

abbrev pub decreases-again_tailed : goal.decreases-again_tailed
decreases-again_tailed l = 4 * max (most size-Term l.insts.now) (size-Term l.tail.now) + 2

abbrev pub decreases-again_symbols : goal.decreases-again_symbols
decreases-again_symbols l = 4 * most size-Term l.terms.now + 2

abbrev pub invariant-again_in_all-loop-term : goal.invariant-again_in_all-loop-term
invariant-again_in_all-loop-term l = again_in_all (term_list (map plain_term (drop l.term-index l.terms))) ≡ again_in_all (term_list (map plain_term l.terms))

abbrev pub invariant-again_symbols-loop-term : goal.invariant-again_symbols-loop-term
invariant-again_symbols-loop-term l = again_symbols l.names (term_list (map plain_term (drop l.term-index l.terms))) ≡ again_symbols [] (term_list (map plain_term l.terms))
