use Rattle.std.proofs.Common.{◌≡◌, ◌++◌, ◌+◌, ◌*◌, max, drop, map}
use denote.Param.Weighed.{most}
use Rattle.mc_term_data.specs.declared.term.Term.{size-Term}
use Rattle.mc_term_data.specs.Plain.{plain_term, term_list}
use Rattle.mc_state_variables.specs.Numbered.{terms_of}
use Rattle.mc_state_variables.specs.code.Helds.{plain_helds, listed}
use Rattle.mc_state_variables.proofs.atoms.+atoms.Given as goal

abbrev pub decreases-term_of : goal.decreases-term_of
decreases-term_of l = 4 * size-Term l.term.now

abbrev pub decreases-terms_of : goal.decreases-terms_of
decreases-terms_of l = 4 * most size-Term l.terms.now + 1

abbrev pub decreases-atom : goal.decreases-atom
decreases-atom l = 4 * most size-Term l.parts.now + 2

abbrev pub decreases-list_of : goal.decreases-list_of
decreases-list_of l = 4 * max (most size-Term l.elements.now) (size-Term l.tail.now) + 3

abbrev pub decreases-boxed : goal.decreases-boxed
decreases-boxed l = 4 * size-Term l.term.now + 1

abbrev pub invariant-terms_of-loop-term : goal.invariant-terms_of-loop-term
invariant-terms_of-loop-term l =
    map plain_term l.out.items ++ listed (terms_of (plain_helds l.held) (term_list (map plain_term (drop l.term-index l.terms))))
    ≡ listed (terms_of (plain_helds l.held) (term_list (map plain_term l.terms)))
