use Rattle.mc_components.proofs.Returning.{one_within_at}
use Rattle.mc_components.proofs.coming_back.one_comes_back.Goals as goal

pub returns : goal.returns
returns c =
    λ graph count alike among.
    one_within_at graph c.args.numbers.now c.as_slice.result.now c.as_slice-2.result.now
    c.args.nodes.now c.args.from c.component.result c.one_within.result count alike among
    c.as_slice.ensures.items c.as_slice-2.ensures.items c.component.ensures c.one_within.ensures
