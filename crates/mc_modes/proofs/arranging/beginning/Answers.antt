use Rattle.mc_modes.proofs.Judgements.{beginning-told}
use Rattle.mc_modes.proofs.arranging.beginning.Goals as goal

pub returns : goal.returns
returns c =
    beginning-told c.args.types c.args.head.now c.args.first.now c.as_slice.result.now c.as_slice-2.result.now c.args.procs.now c.begin.result c.new-nodes.result
    c.as_slice.ensures.items c.as_slice-2.ensures.items c.begin.ensures.types c.begin.ensures.point c.begin.ensures.outside c.begin.ensures.stands
    c.fit.ensures.all c.requires.first c.new-nodes.ensures.overs c.new-nodes.ensures.joins c.new-nodes.ensures.types
