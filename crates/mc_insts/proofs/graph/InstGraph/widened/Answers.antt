use Rattle.std.proofs.Common.{inl, refl}
use Rattle.mc_insts.specs.code.Walks.{scene}
use Rattle.mc_insts.proofs.Below.{below_same, widened_ground, widened_dead}
use Rattle.mc_insts.proofs.graph.InstGraph.widened.Goals as goal

pub returns-then-branch : goal.returns-then-branch
returns-then-branch c =
    let C = scene c.args.self.now c.args.shapes.now in
    record { there = c.requires.there.0; first = below_same C c.args.b c.args.r; second = c.in_ok-below.ensures.0 c.if-branch.true; which = inl refl }

pub returns-then-branch-2 : goal.returns-then-branch-2
returns-then-branch-2 c =
    let C = scene c.args.self.now c.args.shapes.now in
    widened_ground C c.requires.builtins c.args.b c.args.j c.args.r c.requires.builtin.0 c.requires.builtin.1 (λ h. let x = c.in_ok-below.ensures.1 h in let y = c.if-branch.false in cc) (c.in_ok-below-2.ensures.0 c.if-branch-2.true)

pub returns : goal.returns
returns c =
    let C = scene c.args.self.now c.args.shapes.now in
    widened_dead C c.requires.builtins c.args.b c.args.j c.args.r c.requires.builtin.0 c.requires.builtin.1 (λ h. let x = c.in_ok-below.ensures.1 h in let y = c.if-branch.false in cc) (λ h. let x = c.in_ok-below-2.ensures.1 h in let y = c.if-branch-2.false in cc)
