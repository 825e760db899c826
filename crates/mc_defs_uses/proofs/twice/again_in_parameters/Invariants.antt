use Rattle.std.proofs.Common.{◌≡◌, drop, map}
use Rattle.mc_term_data.specs.Plain.{plain_term, term_list}
use Rattle.mc_defs_uses.specs.Twice.{again_in_parameters}
use Rattle.mc_defs_uses.proofs.twice.again_in_parameters.Given as goal

abbrev pub invariant-loop-term : goal.invariant-loop-term
invariant-loop-term l = again_in_parameters (term_list (map plain_term (drop l.term-index l.terms))) ≡ again_in_parameters (term_list (map plain_term l.terms))
