use Rattle.std.proofs.Common.{◌≡◌, drop, map}
use Rattle.mc_term_data.specs.Plain.{plain_term, term_list}
use Rattle.mc_type_table.specs.Rules.{first_of, union_fields}
use Rattle.mc_type_table.proofs.variables.stray_in_union.Given as goal

abbrev pub invariant-loop-constructor : goal.invariant-loop-constructor
invariant-loop-constructor l =
    first_of l.parameters (union_fields (term_list (map plain_term (drop l.constructor-index l.constructors))))
    ≡ first_of l.parameters (union_fields (term_list (map plain_term l.constructors)))
