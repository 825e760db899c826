use Rattle.std.proofs.Common.{◌∙◌, List, map, ap}
use Rattle.std.proofs.lemmas.List.{take_all}
use Rattle.mc_program.specs.declared.program.Pred.{Pred}
use Rattle.mc_names.specs.declared.names.Named.{Named}
use Rattle.mc_declarations.proofs.predicates.predicates.Goals as goal

pub returns-clause-names : goal.returns-clause-names
returns-clause-names c =
    ap (λ (ps : List Pred). map (λ (p : Pred). p.name) ps) c.in_ok-row.ensures.elements
    ∙ c.loop-named.invariant.1
    ∙ ap (λ (ds : List Named). map (λ (d : Named). d.name) ds)
    (take_all c.loop-named.named-index c.as_slice-named-items.result.now c.loop-named-test.false
    ∙ c.as_slice-named-items.ensures.items)
