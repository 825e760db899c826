use Rattle.std.proofs.Common.{◌≡◌, ◌++◌, drop, map}
use Rattle.mc_term_data.specs.Plain.{plain_term, term_list}
use Rattle.mc_state_variables.specs.Numbered.{named_versions}
use Rattle.mc_state_variables.specs.code.Helds.{plain_helds, listed}
use Rattle.mc_state_variables.proofs.quantifiers.named_versions.Given as goal

abbrev pub invariant-loop-element : goal.invariant-loop-element
invariant-loop-element l =
    map plain_term l.named.items ++ listed (named_versions (plain_helds l.held) l.updates (term_list (map plain_term (drop l.element-index l.elements))))
    ≡ listed (named_versions (plain_helds l.held) l.updates (term_list (map plain_term l.elements)))
