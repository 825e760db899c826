use Rattle.std.proofs.Common.{◌≡◌, drop, map}
use Rattle.mc_term_data.specs.Plain.{plain_term, term_list}
use Rattle.mc_clause_syntax.specs.Goals.{all_quantifiable}
use Rattle.mc_clause_syntax.proofs.goal.are_quantifiable.Given as goal

abbrev pub invariant-loop-term : goal.invariant-loop-term
invariant-loop-term l = all_quantifiable (term_list (map plain_term (drop l.term-index l.terms))) ≡ all_quantifiable (term_list (map plain_term l.terms))
