use Rattle.std.proofs.Common.{◌≡◌, length, arith}
use Rattle.mc_cmd.proofs.Looking.{next_looks, next_below, then_not, all_of}
use Rattle.mc_cmd.proofs.named.are_named.Goals as goal

pub returns-then-not-branch : goal.returns-then-not-branch
returns-then-not-branch c =
    then_not c.args.count c.args.values.now c.in-Some.next c.loop-next.left.items _ c.look.new.left.items _ c.in-Some.ensures.items c.loop-next.invariant (c.in_ok-look.ensures {u = tt}) c.if-not-branch.true

pub loop-next-smaller : goal.loop-next-smaller
loop-next-smaller c = let l = (c.in_ok-look.ensures {u = tt}) in omega (arith, l.fewer, next_looks c.in-Some.next c.loop-next.left.items _ c.in-Some.ensures.items)

pub loop-next-preserved : goal.loop-next-preserved
loop-next-preserved c =
    next_below c.args.count c.args.values.now c.in-Some.next c.loop-next.left.items _ c.look.new.left.items _ c.in-Some.ensures.items c.loop-next.invariant (c.in_ok-look.ensures {u = tt}) c.if-not-branch.false

pub returns : goal.returns
returns c =
    let e : length c.loop-next.left.items ≡ 0 = omega (arith, (c.in_default.ensures {u = tt}).cases.0, c.loop-next.left.ok) in
    all_of c.args.count c.args.values.now c.loop-next.left.items e c.loop-next.invariant
