use Rattle.std.proofs.Common.{◌≡◌, drop, map, nat_le}
use Rattle.mc_term_data.specs.Plain.{plain_term, term_list}
use Rattle.mc_clause_syntax.specs.Goals.{most_equivalences}
use Rattle.mc_clause_syntax.proofs.equivalences.+equivalences.Given as goal

abbrev pub invariant-all_nest_at_most-loop-term : goal.invariant-all_nest_at_most-loop-term
invariant-all_nest_at_most-loop-term l =
    nat_le (most_equivalences (term_list (map plain_term (drop l.term-index l.terms)))) l.limit ≡ nat_le (most_equivalences (term_list (map plain_term l.terms))) l.limit
