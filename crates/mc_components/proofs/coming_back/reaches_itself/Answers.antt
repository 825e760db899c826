use Rattle.mc_components.proofs.Returning.{itself_at}
use Rattle.mc_components.proofs.coming_back.reaches_itself.Goals as goal

pub returns : goal.returns
returns c =
    λ count alike.
    itself_at c.args.graph.now c.args.numbers.now c.as_slice.result.now c.as_slice-2.result.now
    c.as_slice-3.result.now c.get.result.now c.args.node c.component.result c.one_within.result
    c.requires count alike c.as_slice.ensures.items
    c.as_slice-2.ensures.items c.component.ensures c.as_slice-3.ensures.items c.get.ensures
    c.one_within.ensures
