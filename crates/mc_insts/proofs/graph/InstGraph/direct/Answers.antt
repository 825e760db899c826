use Rattle.std.proofs.Common.{refl, sym, ap, ◌∙◌}
use Rattle.mc_insts.specs.code.Cases.{marks}
use Rattle.mc_insts.specs.code.Walks.{scene}
use Rattle.mc_insts.proofs.Below.{below_equal, under_along, below_under, below_dead, done_high, done_low}
use Rattle.mc_insts.proofs.graph.InstGraph.direct.Goals as goal

pub returns-then-u : goal.returns-then-u
returns-then-u c =
    let C = scene c.args.self.now c.args.shapes.now in
    done_high C c.args.u c.requires.within (below_equal C c.args.u.low c.args.u.high c.args.u.row c.if-u.true)

pub returns-then-under : goal.returns-then-under
returns-then-under c =
    let C = scene c.args.self.now c.args.shapes.now in
    done_high C c.args.u c.requires.within (below_under C c.args.u.low c.args.u.high c.args.u.row (under_along _ _ _ _ c.node-low.ensures c.node-high.ensures (c.if-under.ensures.0 refl)))

pub returns-then-under-2 : goal.returns-then-under-2
returns-then-under-2 c =
    let C = scene c.args.self.now c.args.shapes.now in
    done_low C c.args.u c.requires.within (below_under C c.args.u.high c.args.u.low c.args.u.row (under_along _ _ _ _ c.node-high.ensures c.node-low.ensures (c.if-under-2.ensures.0 refl)))

pub returns-then-right-eq3 : goal.returns-then-right-eq3
returns-then-right-eq3 c =
    let C = scene c.args.self.now c.args.shapes.now in
    done_high C c.args.u c.requires.within (λ n. below_dead C n c.args.u.high (ap marks (sym c.node-high.ensures) ∙ sym c.marks-right.ensures ∙ c.if-right-eq3.true) c.args.u.low c.args.u.row)

pub returns-then-left-eq3 : goal.returns-then-left-eq3
returns-then-left-eq3 c =
    let C = scene c.args.self.now c.args.shapes.now in
    done_low C c.args.u c.requires.within (λ n. below_dead C n c.args.u.low (ap marks (sym c.node-low.ensures) ∙ sym c.marks-left.ensures ∙ c.if-left-eq3.true) c.args.u.high c.args.u.row)

pub returns-then-branch : goal.returns-then-branch
returns-then-branch c =
    let C = scene c.args.self.now c.args.shapes.now in
    done_low C c.args.u c.requires.within (c.in_ok-below-in-Union.ensures.0 c.if-branch.true)

pub returns-then-branch-2 : goal.returns-then-branch-2
returns-then-branch-2 c =
    let C = scene c.args.self.now c.args.shapes.now in
    done_high C c.args.u c.requires.within (c.in_ok-below-in-Union-2.ensures.0 c.if-branch-2.true)
