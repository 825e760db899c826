use Rattle.std.proofs.Common.{◌≡◌, drop, map}
use Rattle.mc_term_data.specs.Plain.{plain_term, term_list}
use Rattle.mc_decl_syntax.specs.Declarations.{are_plain}
use Rattle.mc_decl_syntax.proofs.signature.are_plain.Given as goal

abbrev pub invariant-loop-term : goal.invariant-loop-term
invariant-loop-term l = are_plain (term_list (map plain_term (drop l.term-index l.terms))) ≡ are_plain (term_list (map plain_term l.terms))
