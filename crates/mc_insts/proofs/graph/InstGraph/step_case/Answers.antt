use Rattle.std.proofs.Common.{sym, subst}
use Rattle.mc_insts.specs.declared.graph.Node.{Node}
use Rattle.mc_insts.specs.declared.graph.Shape.{Shape}
use Rattle.mc_insts.specs.code.Overs.{NodeWide, RowWide}
use Rattle.mc_insts.specs.code.Walks.{scene, arity_of}
use Rattle.mc_insts.proofs.Scenes.{node_wide, row_wide}
use Rattle.mc_insts.proofs.Steps.{over_there}
use Rattle.mc_insts.proofs.graph.InstGraph.step_case.Goals as goal

pub push_all-requires-clause-lows_wide : goal.push_all-requires-clause-lows_wide
push_all-requires-clause-lows_wide c =
    let C = scene c.args.self.now c.args.shapes.now in
    c.in-Some.ensures.2 c.args.arity (subst (λ n. NodeWide c.node.result.now c.args.functor n) (sym c.requires.arity) (subst (λ (K : Node). NodeWide K c.args.functor (arity_of C c.args.functor)) (sym c.node.ensures) (node_wide C c.requires.proper c.args.t.low c.args.functor)))

pub push_all-requires-clause-highs_wide : goal.push_all-requires-clause-highs_wide
push_all-requires-clause-highs_wide c =
    let C = scene c.args.self.now c.args.shapes.now in
    c.in-Some-over_node.ensures.2 c.args.arity (subst (λ n. NodeWide c.node-2.result.now c.args.functor n) (sym c.requires.arity) (subst (λ (K : Node). NodeWide K c.args.functor (arity_of C c.args.functor)) (sym c.node-2.ensures) (node_wide C c.requires.proper c.args.t.high c.args.functor)))

pub push_all-requires-clause-types_wide : goal.push_all-requires-clause-types_wide
push_all-requires-clause-types_wide c =
    let C = scene c.args.self.now c.args.shapes.now in
    c.in-Some-over_row.ensures.2 c.args.arity (subst (λ n. RowWide c.row.result.now c.args.functor n) (sym c.requires.arity) (subst (λ (K : Shape). RowWide K c.args.functor (arity_of C c.args.functor)) (sym c.row.ensures) (row_wide C c.requires.proper c.args.t.row c.args.functor)))

pub push_all-requires-clause-lows_there : goal.push_all-requires-clause-lows_there
push_all-requires-clause-lows_there c =
    over_there (scene c.args.self.now c.args.shapes.now) c.requires.proper c.node.result.now c.args.t.low c.args.functor c.args.arity _ c.node.ensures c.requires.within.low c.in-Some.ensures.0 c.in-Some.ensures.1 c.requires.arity

pub push_all-requires-clause-highs_there : goal.push_all-requires-clause-highs_there
push_all-requires-clause-highs_there c =
    over_there (scene c.args.self.now c.args.shapes.now) c.requires.proper c.node-2.result.now c.args.t.high c.args.functor c.args.arity _ c.node-2.ensures c.requires.within.high c.in-Some-over_node.ensures.0 c.in-Some-over_node.ensures.1 c.requires.arity
