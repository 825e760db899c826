use Rattle.std.proofs.Common.{◌≡◌, ◌++◌, drop, map}
use Rattle.mc_term_data.specs.Plain.{plain_term, term_list}
use Rattle.mc_type_table.specs.Rules.{union_fields}
use Rattle.mc_type_table.proofs.fields.union_fields.Given as goal

abbrev pub invariant-loop-constructor : goal.invariant-loop-constructor
invariant-loop-constructor l =
    map (λ t. plain_term t.now) l.all.items
    ++ union_fields (term_list (map plain_term (drop l.constructor-index l.constructors)))
    ≡ union_fields (term_list (map plain_term l.constructors))
