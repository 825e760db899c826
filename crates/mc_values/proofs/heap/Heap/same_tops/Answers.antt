use Rattle.std.proofs.Common.{IsTrue, rules}
use Rattle.mc_values.proofs.WalkLaws.{if_split}
use Rattle.mc_values.proofs.heap.Heap.same_tops.Goals as goal

pub returns : goal.returns
returns c =
    let topped : IsTrue c.in_ok-same_top.field-0 = search rules in
    if_split c.args.self.now c.args.a c.args.b c.args.pairs.now.items c.requires.pairs
    c.args-2.result.now c.args-3.result.now
    ((c.in_ok-same_top.ensures {u = tt}).0 topped)
    c.args-2.ensures.values c.args-3.ensures.values c.args-2.ensures.live c.args-3.ensures.live
    c.put_pairs.result c.put_pairs.new.pairs.items c.put_pairs.ensures
