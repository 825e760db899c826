use Rattle.std.proofs.Common.{◌≡◌, drop, map}
use Rattle.mc_term_data.specs.Plain.{plain_term, term_list}
use Rattle.mc_type_table.specs.Rules.{first_of, fields}
use Rattle.mc_type_table.proofs.variables.stray_in_fields.Given as goal

abbrev pub invariant-loop-term : goal.invariant-loop-term
invariant-loop-term l =
    first_of l.parameters (fields (term_list (map plain_term (drop l.term-index l.terms))))
    ≡ first_of l.parameters (fields (term_list (map plain_term l.terms)))
