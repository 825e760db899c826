use Rattle.std.proofs.Common.{◌≡◌, drop, map}
use Rattle.mc_term_data.specs.Plain.{plain_term, term_list}
use Rattle.mc_clause_syntax.specs.Limits.{all_variables}
use Rattle.mc_clause_syntax.specs.code.Found.{with_variables}
use Rattle.mc_clause_syntax.proofs.variables.Variables.+variables.Given as goal

abbrev pub invariant-add_all-loop-term : goal.invariant-add_all-loop-term
invariant-add_all-loop-term l =
    with_variables l.self (all_variables (term_list (map plain_term (drop l.term-index l.terms)))) ≡ with_variables l.initial.self (all_variables (term_list (map plain_term l.terms)))
