use Rattle.std.proofs.Common.{◌≡◌, drop, map}
use Rattle.mc_term_data.specs.Plain.{plain_term, term_list}
use Rattle.mc_clause_syntax.specs.Limits.{any_too_many}
use Rattle.mc_clause_syntax.proofs.arguments.+arguments.Given as goal

abbrev pub invariant-any_has_too_many-loop-term : goal.invariant-any_has_too_many-loop-term
invariant-any_has_too_many-loop-term l =
    any_too_many l.in_clause (term_list (map plain_term (drop l.term-index l.terms))) ≡ any_too_many l.in_clause (term_list (map plain_term l.terms))
