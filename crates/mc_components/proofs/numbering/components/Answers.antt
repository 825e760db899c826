use Rattle.std.proofs.Common.{◌≡◌, sym, ◌∙◌}
use Rattle.std.proofs.lemmas.Result.{IfOk-weaker}
use Rattle.mc_components.specs.Components.{NumbersComponents, StepsGoDown}
use Rattle.mc_components.proofs.Certified.{numbered_at, goes_down_at}
use Rattle.mc_components.proofs.numbering.components.Goals as goal

pub returns-clause-alike : goal.returns-clause-alike
returns-clause-alike c =
    IfOk-weaker c.of.result (λ row. row ≡ c.in_ok-nodes.field-0.components.items)
    (λ numbers. NumbersComponents c.args.graph.now numbers)
    (λ row is.
    numbered_at c.args.graph.now c.as_slice-steps.result.now row c.as_slice.result.now
    c.as_slice-2.result.now c.as_slice-3.result.now c.as_slice-steps.ensures.items
    (c.as_slice.ensures.value ∙ sym is) (c.is_certified.ensures c.if-not-is_certified.false))
    c.of.ensures.elements

pub returns-clause-ordered : goal.returns-clause-ordered
returns-clause-ordered c =
    IfOk-weaker c.of.result (λ row. row ≡ c.in_ok-nodes.field-0.components.items)
    (λ numbers. StepsGoDown c.args.graph.now numbers)
    (λ row is.
    goes_down_at c.args.graph.now c.as_slice-steps.result.now row c.as_slice.result.now
    c.as_slice-2.result.now c.as_slice-3.result.now c.as_slice-steps.ensures.items
    (c.as_slice.ensures.value ∙ sym is) (c.is_certified.ensures c.if-not-is_certified.false))
    c.of.ensures.elements
