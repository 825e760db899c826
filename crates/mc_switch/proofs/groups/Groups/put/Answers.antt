use Rattle.std.proofs.Common.{arith}
use Rattle.mc_switch.proofs.Putting.{put_labels, put_groups, push_groups}
use Rattle.mc_switch.proofs.groups.Groups.put.Goals as goal

pub returns-in_ok-put_at-clause-labels : goal.returns-in_ok-put_at-clause-labels
returns-in_ok-put_at-clause-labels c =
    put_labels c.args.label c.args.disjunct c.args.self.now.labels.keys c.insert_full.new.self.keys c.args.self.now.groups.items c.put_at.new.groups.items c.in_ok-k.k c.requires c.in_ok-k.ensures.keys c.in_ok-k.ensures.index
    (omega (arith, c.if-k-len.true, c.len.ensures)) c.in_ok-put_at.ensures

pub returns-in_ok-put_at-clause-groups : goal.returns-in_ok-put_at-clause-groups
returns-in_ok-put_at-clause-groups c =
    put_groups c.args.label c.args.disjunct c.args.self.now.labels.keys c.args.self.now.groups.items c.put_at.new.groups.items c.in_ok-k.k c.requires c.in_ok-k.ensures.index
    (omega (arith, c.if-k-len.true, c.len.ensures)) c.in_ok-put_at.ensures

pub returns-in_ok-push_group-clause-groups : goal.returns-in_ok-push_group-clause-groups
returns-in_ok-push_group-clause-groups c =
    push_groups c.args.label c.args.disjunct c.args.self.now.labels.keys c.args.self.now.groups.items c.push_group.new.groups.items c.in_ok-k.k c.requires c.in_ok-k.ensures.index
    (omega (arith, c.if-k-len.false, c.len.ensures)) c.in_ok-push_group.ensures
