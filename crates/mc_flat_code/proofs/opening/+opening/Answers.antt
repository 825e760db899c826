use Rattle.std.proofs.Common.{◌≤◌, length, subst, arith}
use Rattle.mc_model.specs.PlainGoals.{plain_label, plain_node}
use Rattle.mc_model.specs.declared.sched.Arm.{Arm}
use Rattle.mc_model.specs.declared.sched.GoalNode.{GoalNode}
use Rattle.mc_flat_code.specs.Standing.{Opens}
use Rattle.mc_flat_code.proofs.Openings.{goal_opens, arm_opens, goals_open, arms_open, first_goal, first_arm}
use Rattle.mc_flat_code.proofs.opening.+opening.Goals as goal

pub alternatives_open-loop-goal-preserved : goal.alternatives_open-loop-goal-preserved
alternatives_open-loop-goal-preserved t c =
    goal_opens (plain_label c.args.on.now) c.args.variable c.args.goals.now c.loop-goal.goal-index c.goal-item.result c.loop-goal-test.true c.loop-goal.invariant
    (subst (λ (g : GoalNode). Opens (plain_label c.args.on.now) c.args.variable (plain_node g)) c.goal-item.is (c.opens.ensures c.if-not-opens.false))

pub alternatives_open-returns-clause-first : goal.alternatives_open-returns-clause-first
alternatives_open-returns-clause-first t c =
    λ yes.
    let some : 1 ≤ length c.args.goals.now = grind (arith, c.if-is_empty.false, c.is_empty.ensures) in
    first_goal (plain_label c.args.on.now) c.args.variable c.args.goals.now some (goals_open (plain_label c.args.on.now) c.args.variable c.args.goals.now c.loop-goal.goal-index (omega arith) c.loop-goal.invariant)

pub alternatives_open-returns-clause-each : goal.alternatives_open-returns-clause-each
alternatives_open-returns-clause-each t c =
    λ yes.
    goals_open (plain_label c.args.on.now) c.args.variable c.args.goals.now c.loop-goal.goal-index (omega arith) c.loop-goal.invariant

pub arms_open-loop-arm-preserved : goal.arms_open-loop-arm-preserved
arms_open-loop-arm-preserved t c =
    arm_opens (plain_label c.args.on.now) c.args.variable c.args.arms.now c.loop-arm.arm-index c.arm-item.result c.loop-arm-test.true c.loop-arm.invariant
    (subst (λ (a : Arm). Opens (plain_label c.args.on.now) c.args.variable (plain_node a.body)) c.arm-item.is (c.opens.ensures c.if-not-opens.false))

pub arms_open-returns-clause-first : goal.arms_open-returns-clause-first
arms_open-returns-clause-first t c =
    λ yes.
    let some : 1 ≤ length c.args.arms.now = grind (arith, c.if-is_empty.false, c.is_empty.ensures) in
    first_arm (plain_label c.args.on.now) c.args.variable c.args.arms.now some (arms_open (plain_label c.args.on.now) c.args.variable c.args.arms.now c.loop-arm.arm-index (omega arith) c.loop-arm.invariant)

pub arms_open-returns-clause-each : goal.arms_open-returns-clause-each
arms_open-returns-clause-each t c =
    λ yes.
    arms_open (plain_label c.args.on.now) c.args.variable c.args.arms.now c.loop-arm.arm-index (omega arith) c.loop-arm.invariant
