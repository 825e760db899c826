use Rattle.std.proofs.Common.{◌+◌, length, take, drop, sym, subst}
use Rattle.mc_model.specs.Flat.{variables_of}
use Rattle.mc_model.specs.PlainGoals.{plain_flat}
use Rattle.mc_procs.specs.Named.{NumbersBelow}
use Rattle.mc_modes.specs.code.Frames.{Left}
use Rattle.mc_modes.specs.code.Waiting.{Counted}
use Rattle.mc_modes.proofs.Counts.{below-first, below-second}
use Rattle.mc_modes.proofs.Occurring.{all_of, all-behind, all-before, left-both, below-later, counted-first, counted-later}
use Rattle.mc_modes.proofs.outside.leave_goals.Goals as goal

pub leave_goal-requires-clause-below : goal.leave_goal-requires-clause-below
leave_goal-requires-clause-below c =
    let gs = c.args.goals.now in
    let k = c.loop-goal.goal-index in
    let x = c.goal-item.result in
    let n = length c.loop-goal.state.outside.items in
    below-first n (variables_of (plain_flat x)) (all_of (drop (k + 1) gs)) (subst (NumbersBelow n) (all-behind gs k x c.loop-goal-test.true c.goal-item.is) c.loop-goal.invariant.below)

pub leave_goal-requires-clause-enough : goal.leave_goal-requires-clause-enough
leave_goal-requires-clause-enough c =
    let gs = c.args.goals.now in
    let k = c.loop-goal.goal-index in
    let x = c.goal-item.result in
    let t = c.loop-goal.state in
    counted-first (variables_of (plain_flat x)) (all_of (drop (k + 1) gs)) t (subst (λ vs. Counted vs t) (all-behind gs k x c.loop-goal-test.true c.goal-item.is) c.loop-goal.invariant.counted)

pub loop-goal-preserved : goal.loop-goal-preserved
loop-goal-preserved c =
    let gs = c.args.goals.now in
    let k = c.loop-goal.goal-index in
    let x = c.goal-item.result in
    let s = c.args.state.now in
    let t = c.loop-goal.state in
    let u = c.leave_goal.new.state in
    let n = length t.outside.items in
    let us = variables_of (plain_flat x) in
    let vs = all_of (drop (k + 1) gs) in
    let i = c.loop-goal.invariant in
    let l = c.in_ok-leave_goal.ensures in
    let is = all-behind gs k x c.loop-goal-test.true c.goal-item.is in
    record {
      left = subst (λ ws. Left ws s u) (sym (all-before gs k x c.loop-goal-test.true c.goal-item.is)) (left-both (all_of (take k gs)) us s t u i.left l);
      below = below-later vs t u l.frame (below-second n us vs (subst (NumbersBelow n) is i.below));
      counted = counted-later us vs t u l (subst (λ ws. Counted ws t) is i.counted);
    }
