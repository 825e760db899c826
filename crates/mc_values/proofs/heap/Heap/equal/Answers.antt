use Rattle.std.proofs.Common.{arith, rules, IsTrue}
use Rattle.mc_values.proofs.WalkLaws.{popped_size, popped_to, popped_from, popped_rest, popped_last}
use Rattle.mc_values.proofs.heap.Heap.equal.Goals as goal

pub loop-pairs-smaller : goal.loop-pairs-smaller
loop-pairs-smaller c =
    let split = c.in_ok-same_tops.ensures {u = tt} in
    omega (arith, split.less, popped_size c.args.self.now c.same_tops.new.pairs.items c.pop.new.self.items (c.in-Some.l, c.in-Some.r) (c.in-Some.ensures {u = tt}).items)

pub loop-pairs-preserved : goal.loop-pairs-preserved
loop-pairs-preserved c =
    let h = c.args.self.now in
    let all = c.same_tops.new.pairs.items in
    let rest = c.pop.new.self.items in
    let split = c.in_ok-same_tops.ensures {u = tt} in
    let e = (c.in-Some.ensures {u = tt}).items in
    let last = popped_last h all rest (c.in-Some.l, c.in-Some.r) e split.live in
    let same : IsTrue c.in_ok-same_tops.field-0 = search rules in
    record {
      left = last.0;
      right = last.1;
      pairs = popped_rest h all rest (c.in-Some.l, c.in-Some.r) e split.live;
      to = λ s q. let r = split.to same (popped_from h all rest (c.in-Some.l, c.in-Some.r) e s q) in c.loop-pairs.invariant.to r.0 r.1;
      from = λ q. let r = c.loop-pairs.invariant.from q in popped_to h all rest (c.in-Some.l, c.in-Some.r) e (split.from r.0 r.1).1;
    }
