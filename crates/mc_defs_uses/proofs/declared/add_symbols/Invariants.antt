use Rattle.std.proofs.Common.{◌≡◌, ◌++◌, drop, map}
use Rattle.mc_term_data.specs.Plain.{plain_term, term_list}
use Rattle.mc_names.specs.Plain.{plain_definition}
use Rattle.mc_names.specs.Definitions.{symbols}
use Rattle.mc_defs_uses.proofs.declared.add_symbols.Given as goal

abbrev pub invariant-loop-term : goal.invariant-loop-term
invariant-loop-term l =
    map plain_definition l.definitions.items ++ symbols (term_list (map plain_term (drop l.term-index l.terms))) ≡ map plain_definition l.initial.definitions.items ++ symbols (term_list (map plain_term l.terms))
