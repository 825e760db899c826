use Rattle.std.proofs.Common.{ap}
use Rattle.mc_switch.specs.Openings.{plain_opening_label}
use Rattle.mc_switch.proofs.Putting.{put_there}
use Rattle.mc_switch.proofs.groups.put_at.Goals as goal

pub returns : goal.returns
returns c =
    put_there c.args.groups.now.items c.args.k c.index_mut-group.result.now _ c.args.disjunct c.requires c.index_mut-group.ensures.value
    (ap (λ os. (plain_opening_label c.index_mut-group.result.now.label, os)) c.in_ok-push.ensures.items)
