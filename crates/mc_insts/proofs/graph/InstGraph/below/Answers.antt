use Rattle.std.proofs.Common.{refl, arith}
use Rattle.mc_insts.specs.code.Steps.{same_of}
use Rattle.mc_insts.specs.code.Walks.{scene}
use Rattle.mc_insts.proofs.Growth.{covered_on, extends_length}
use Rattle.mc_insts.proofs.Walks.{within_more, sound_more, done_more}
use Rattle.mc_insts.proofs.Steps.{closed_below}
use Rattle.mc_insts.proofs.graph.InstGraph.below.Goals as goal

pub loop-t-preserved : goal.loop-t-preserved
loop-t-preserved c =
    let C = scene c.args.self.now c.args.shapes.now in
    let s = c.in-Some.ensures.triple in
    let l = extends_length _ _ c.step.ensures.extends in
    let w = s.within in
    record {
      there = covered_on C.nodes _ _ (same_of c.args.i c.args.j c.args.r) c.step.ensures.extends c.loop-t.invariant.there;
      within = within_more C c.requires.proper c.in-Some.t c.loop-t.next _ _ c.step.ensures.extends s c.loop-t.invariant.within c.in_ok-step.ensures.fresh;
      sound = sound_more C (same_of c.args.i c.args.j c.args.r) c.in-Some.t c.loop-t.next _ _ c.step.ensures.extends s c.loop-t.invariant.sound c.in_ok-step.ensures.fresh;
      done = done_more C c.in-Some.t c.loop-t.next _ _ c.step.ensures.extends s c.loop-t.invariant.done (c.in_ok-step.ensures.visited c.if-not-branch.false);
      order = omega arith;
    }

pub returns : goal.returns
returns c =
    let C = scene c.args.self.now c.args.shapes.now in
    let e = c.in_default.ensures.triple in
    (λ x n. closed_below C c.loop-t.seen (λ m u s. let w = s.within in c.loop-t.invariant.done m u (omega arith) s) n (same_of c.args.i c.args.j c.args.r) c.loop-t.invariant.there, λ x. refl)
