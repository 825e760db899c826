use Rattle.std.proofs.Common.{◌≡◌, ◌+◌, length, map}
use Rattle.mc_term_data.specs.Plain.{plain_term, term_list}
use Rattle.mc_decl_syntax.specs.Terms.{paths}
use Rattle.mc_decl_syntax.specs.code.Steps.{paths_with}
use Rattle.mc_decl_syntax.proofs.parts.into_paths.Given as goal

abbrev pub invariant-loop-term : goal.invariant-loop-term
invariant-loop-term l = (paths_with l.names (term_list (map plain_term l.term-iterator.rest.items)) ≡ paths (term_list (map plain_term l.fn.terms))) × (length l.names + length l.term-iterator.rest.items ≡ length l.fn.terms)
