use Rattle.std.proofs.Common.{get_or, sym, subst, arith}
use Rattle.mc_insts.specs.Defining.{plain_definitions, IsNode, there}
use Rattle.mc_signatures.proofs.Placing.{node_of_list}
use Rattle.mc_signatures.proofs.nodes.node.Goals as goal

pub returns-in-Old : goal.returns-in-Old
returns-in-Old c =
    let ds = plain_definitions c.args.defs.now in
    c.loop.invariant c.in-Old.node (subst (λ r. IsNode ds 4 r c.in-Old.node) (sym c.in-Old.is) there)

pub returns-in-Bound : goal.returns-in-Bound
returns-in-Bound c =
    let ds = plain_definitions c.args.defs.now in
    let nodes = c.args.made.now in
    let node = get_or nodes c.in-New.place 0 in
    c.loop.invariant node
    (subst (λ r. IsNode ds 4 r node) (sym c.in-New.is)
    (node_of_list c.args.defs.now c.in-New.place c.get.result.now c.in-Bound.field-0 nodes c.requires (omega arith) c.get.ensures c.in-Bound.is))
