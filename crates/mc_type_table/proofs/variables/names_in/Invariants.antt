use Rattle.std.proofs.Common.{◌≡◌, ◌++◌, drop, map}
use Rattle.mc_term_data.specs.Plain.{plain_term, term_list}
use Rattle.mc_decl_syntax.specs.Terms.{names_in}
use Rattle.mc_type_table.proofs.variables.names_in.Given as goal

abbrev pub invariant-loop-term : goal.invariant-loop-term
invariant-loop-term l =
    l.names.items ++ names_in (term_list (map plain_term (drop l.term-index l.terms)))
    ≡ names_in (term_list (map plain_term l.terms))
