use Rattle.std.proofs.Common.{◌≡◌, drop, map}
use Rattle.mc_term_data.specs.Plain.{plain_term, term_list}
use Rattle.mc_decl_syntax.specs.Types.{are_types}
use Rattle.mc_decl_syntax.proofs.types.+types.Given as goal

abbrev pub invariant-are_types-loop-term : goal.invariant-are_types-loop-term
invariant-are_types-loop-term l = are_types (term_list (map plain_term (drop l.term-index l.terms))) ≡ are_types (term_list (map plain_term l.terms))
