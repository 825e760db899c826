use Rattle.std.proofs.Common.{◌≡◌, ◌++◌, drop, map}
use Rattle.mc_term_data.specs.Plain.{plain_term, term_list}
use Rattle.mc_type_table.specs.Rules.{fields}
use Rattle.mc_type_table.proofs.fields.put_fields.Given as goal

abbrev pub invariant-loop-term : goal.invariant-loop-term
invariant-loop-term l =
    map (λ t. plain_term t.now) l.all.items
    ++ fields (term_list (map plain_term (drop l.term-index l.terms)))
    ≡ map (λ t. plain_term t.now) l.initial.all.items ++ fields (term_list (map plain_term l.terms))
