use Rattle.std.proofs.Common.{◌≡◌, ◌+◌, ◌*◌, drop, map}
use denote.Param.Weighed.{most}
use Rattle.mc_term_data.specs.Plain.{plain_term, term_list}
use Rattle.mc_term_data.specs.declared.term.Term.{size-Term}
use Rattle.mc_type_table.specs.Rules.{first_stray}
use Rattle.mc_type_table.proofs.variables.+stray.Given as goal

abbrev pub decreases-stray : goal.decreases-stray
decreases-stray l = 2 * size-Term l.term.now

abbrev pub decreases-first_stray : goal.decreases-first_stray
decreases-first_stray l = 2 * most size-Term l.terms.now + 1

abbrev pub invariant-first_stray-loop-term : goal.invariant-first_stray-loop-term
invariant-first_stray-loop-term l =
    first_stray l.parameters (term_list (map plain_term (drop l.term-index l.terms)))
    ≡ first_stray l.parameters (term_list (map plain_term l.terms))
