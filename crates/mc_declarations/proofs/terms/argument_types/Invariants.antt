use Rattle.std.proofs.Common.{◌≡◌, map, take}
use Rattle.mc_term_data.specs.Plain.{plain_term}
use Rattle.mc_declarations.specs.Declarations.{without_mode}
use Rattle.mc_declarations.proofs.terms.argument_types.Given as goal

abbrev pub invariant-loop-term : goal.invariant-loop-term
invariant-loop-term l =
    map (λ t. plain_term t.now) l.all.items
    ≡ map (λ t. without_mode (plain_term t)) (take l.term-index l.terms)
