use Rattle.std.proofs.Common.{◌∙◌, ◌+◌, ◌<◌, length, drop, ap, ap₂, sym, arith}
use Rattle.mc_mode_state.specs.States.{point_of}
use Rattle.mc_mode_state.specs.code.Taking.{take_each}
use Rattle.mc_mode_state.proofs.Steps.{stepped-trans}
use Rattle.mc_mode_state.proofs.Numbers.{below-rest, cons_at}
use Rattle.mc_mode_state.proofs.state.State.take_each.Goals as goal

pub loop-k-preserved : goal.loop-k-preserved
loop-k-preserved c =
    let k = c.loop-k.k in
    let ys = c.args.ys.now in
    let is = c.args.insts.now in
    let g : k < length is = omega (arith, c.loop-k-test.true, c.requires.many) in
    let e = c.in_ok-take_one.ensures in
    record {
      below = below-rest _ _ ys k e.count c.loop-k.invariant.below c.loop-k-test.true;
      rest = ap (take_each (drop (k + 1) ys) (drop (k + 1) is)) e.point
          ∙ (sym (ap₂ (λ xs js. take_each xs js (point_of c.loop-k.self.insts.items)) (cons_at ys k 0 c.loop-k-test.true) (cons_at is k 0 g)) ∙ c.loop-k.invariant.rest);
      stepped = λ q st w.
          let p = c.loop-k.invariant.stepped q st w in
          stepped-trans q q q c.args.self.now c.loop-k.self c.take_one.new.self p (e.stepped q p.moved.stands (w k g));
      count = e.count ∙ c.loop-k.invariant.count;
    }
