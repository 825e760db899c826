use Rattle.std.proofs.Common.{Some}
use Rattle.mc_plain.proofs.Binding.{read_is}
use Rattle.mc_plain.proofs.Making.{if_taken}
use Rattle.mc_plain.proofs.atom.made.Goals as goal

pub returns-in-Some-clause-does : goal.returns-in-Some-clause-does
returns-in-Some-clause-does c =
    let h = c.args.heap.now in
    let frame = c.args.frame.now.items in
    if_taken h h frame c.taken.new.frame.items c.args.x c.args.symbol c.in-Some.r c.args.args.now
    (read_is frame c.args.x c.index.result.now (Some c.in-Some.r) c.requires.variable c.index.ensures c.in-Some.is)
    c.taken.result c.taken.ensures.does
