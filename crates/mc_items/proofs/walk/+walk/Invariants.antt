use Rattle.std.proofs.Common.{◌≡◌, ◌*◌, ◌+◌, max, drop, map}
use denote.Param.Weighed.{most}
use Rattle.mc_term_data.specs.Plain.{plain_term, term_list}
use Rattle.mc_term_data.specs.declared.term.Term.{size-Term}
use Rattle.mc_items.specs.Reasons.{left_out_all}
use Rattle.mc_items.proofs.walk.+walk.Given as goal

abbrev pub decreases-left_out : goal.decreases-left_out
decreases-left_out l = 3 * size-Term l.term.now

abbrev pub decreases-left_out_over : goal.decreases-left_out_over
decreases-left_out_over l = 3 * most size-Term l.parts.now + 2

abbrev pub decreases-left_out_tailed : goal.decreases-left_out_tailed
decreases-left_out_tailed l = 3 * max (most size-Term l.elements.now) (size-Term l.tail.now) + 2

abbrev pub decreases-left_out_all : goal.decreases-left_out_all
decreases-left_out_all l = 3 * most size-Term l.terms.now + 1

abbrev pub invariant-left_out_all-loop-term : goal.invariant-left_out_all-loop-term
invariant-left_out_all-loop-term l =
    left_out_all l.role (term_list (map plain_term (drop l.term-index l.terms))) ≡ left_out_all l.role (term_list (map plain_term l.terms))
