use Rattle.std.proofs.Common.{◌≡◌, true, drop, map}
use Rattle.mc_term_data.specs.Plain.{plain_term, term_list}
use Rattle.mc_decl_syntax.specs.Terms.{is_distinct, parameters_in}
use Rattle.mc_decl_syntax.specs.code.Steps.{parameters_with}
use Rattle.mc_decl_syntax.proofs.head.parameters_in.Given as goal

abbrev pub invariant-loop-term : goal.invariant-loop-term
invariant-loop-term l = (parameters_with l.names (term_list (map plain_term (drop l.term-index l.terms))) ≡ parameters_in (term_list (map plain_term l.terms))) × (is_distinct l.names ≡ true)
