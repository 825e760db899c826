use Rattle.std.proofs.Common.{Some}
use Rattle.mc_values.specs.Heap.{value_at}
use Rattle.mc_plain.proofs.Binding.{read_is, if_bound_meets, held_set}
use Rattle.mc_plain.proofs.frame.meet.Goals as goal

pub returns-in-Some-clause-meets : goal.returns-in-Some-clause-meets
returns-in-Some-clause-meets c =
    let frame = c.args.frame.now.items in
    if_bound_meets c.args.heap.now frame c.args.x (value_at c.args.heap.now c.args.r) _ (read_is frame c.args.x c.index.result.now _ c.requires.variable c.index.ensures c.in-Some.is) c.equal.result c.equal.ensures

pub returns-in-None-clause-held : goal.returns-in-None-clause-held
returns-in-None-clause-held c P is held = held_set P c.args.heap.now c.args.frame.now.items c.args.x (Some c.args.r) held is
