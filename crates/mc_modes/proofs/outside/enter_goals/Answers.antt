use Rattle.std.proofs.Common.{◌+◌, length, take, drop, sym, subst}
use Rattle.mc_model.specs.Flat.{variables_of}
use Rattle.mc_model.specs.PlainGoals.{plain_flat}
use Rattle.mc_procs.specs.Named.{NumbersBelow}
use Rattle.mc_modes.specs.code.Frames.{Entered}
use Rattle.mc_modes.proofs.Counts.{below-first, below-second}
use Rattle.mc_modes.proofs.Occurring.{all_of, all-behind, all-before, entered-both, below-later}
use Rattle.mc_modes.proofs.outside.enter_goals.Goals as goal

pub enter_goal-requires : goal.enter_goal-requires
enter_goal-requires c =
    let gs = c.args.goals.now in
    let k = c.loop-goal.goal-index in
    let x = c.goal-item.result in
    let n = length c.loop-goal.state.outside.items in
    below-first n (variables_of (plain_flat x)) (all_of (drop (k + 1) gs)) (subst (NumbersBelow n) (all-behind gs k x c.loop-goal-test.true c.goal-item.is) c.loop-goal.invariant.below)

pub loop-goal-preserved : goal.loop-goal-preserved
loop-goal-preserved c =
    let gs = c.args.goals.now in
    let k = c.loop-goal.goal-index in
    let x = c.goal-item.result in
    let s = c.args.state.now in
    let t = c.loop-goal.state in
    let u = c.enter_goal.new.state in
    let n = length t.outside.items in
    let i = c.loop-goal.invariant in
    let e = c.in_ok-enter_goal.ensures in
    record {
      entered = subst (λ vs. Entered vs s u) (sym (all-before gs k x c.loop-goal-test.true c.goal-item.is)) (entered-both (all_of (take k gs)) (variables_of (plain_flat x)) s t u i.entered e);
      below =
          below-later (all_of (drop (k + 1) gs)) t u e.frame
          (below-second n (variables_of (plain_flat x)) (all_of (drop (k + 1) gs)) (subst (NumbersBelow n) (all-behind gs k x c.loop-goal-test.true c.goal-item.is) i.below));
    }
