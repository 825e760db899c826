use Rattle.std.proofs.Common.{◌≡◌, ◌+◌, ◌*◌, take, map}
use denote.Param.Weighed.{most}
use Rattle.mc_term_data.specs.Plain.{plain_term}
use Rattle.mc_term_data.specs.declared.term.Term.{size-Term}
use Rattle.mc_program.specs.PlainPrograms.{plain_type}
use Rattle.mc_names.specs.Linked.{plain_names}
use Rattle.mc_type_table.specs.Written.{written_type}
use Rattle.mc_type_table.proofs.written.+written.Given as goal

abbrev pub decreases-type_of_term : goal.decreases-type_of_term
decreases-type_of_term l = 3 * size-Term l.term.now

abbrev pub decreases-type_over : goal.decreases-type_over
decreases-type_over l = 3 * most size-Term l.arguments.now + 2

abbrev pub decreases-types_of_terms : goal.decreases-types_of_terms
decreases-types_of_terms l = 3 * most size-Term l.terms.now + 1

abbrev pub invariant-types_of_terms-loop-term : goal.invariant-types_of_terms-loop-term
invariant-types_of_terms-loop-term l =
    map plain_type l.types.items
    ≡ map
    (λ t. written_type (plain_names l.names) l.own l.variables (plain_term t))
    (take l.term-index l.terms)
