use Rattle.std.proofs.Common.{◌≡◌, ◌++◌, drop, map}
use Rattle.mc_term_data.specs.Plain.{plain_term, term_list}
use Rattle.mc_names.specs.Parameters.{variable_names}
use Rattle.mc_names.proofs.parameters.variable_names.Given as goal

abbrev pub invariant-loop-term : goal.invariant-loop-term
invariant-loop-term l =
    l.names.items ++ variable_names (term_list (map plain_term (drop l.term-index l.terms)))
    ≡ variable_names (term_list (map plain_term l.terms))
