use Rattle.std.proofs.Common.{◌++◌, arith, rules}
use Rattle.std.proofs.lemmas.Grind.{common_steps}
use Rattle.mc_model.specs.declared.sched.Sched.{the_lemmas}
use Rattle.mc_det.proofs.Gathering.{of_goals, of_arms, goal_gathered, goals_gathered, arm_gathered, arms_gathered}
use Rattle.mc_det.proofs.variables.+variables.Goals as goal

pub put_nodes-loop-goal-preserved : goal.put_nodes-loop-goal-preserved
put_nodes-loop-goal-preserved t c =
    goal_gathered c.loop-goal.variables.items c.put_node.new.variables.items (c.args.variables.now.items ++ of_goals c.args.goals.now) c.args.goals.now c.loop-goal.goal-index c.goal-item.result c.loop-goal-test.true c.goal-item.is c.in_ok-put_node.ensures c.loop-goal.invariant

pub put_nodes-returns : goal.put_nodes-returns
put_nodes-returns t c =
    goals_gathered c.loop-goal.variables.items (c.args.variables.now.items ++ of_goals c.args.goals.now) c.args.goals.now c.loop-goal.goal-index (omega arith) c.loop-goal.invariant

pub put_arms-loop-arm-preserved : goal.put_arms-loop-arm-preserved
put_arms-loop-arm-preserved t c =
    arm_gathered c.loop-arm.variables.items c.put_node.new.variables.items (c.args.variables.now.items ++ of_arms c.args.arms.now) c.args.arms.now c.loop-arm.arm-index c.arm-item.result c.loop-arm-test.true c.arm-item.is c.in_ok-put_node.ensures c.loop-arm.invariant

pub put_arms-returns : goal.put_arms-returns
put_arms-returns t c =
    arms_gathered c.loop-arm.variables.items (c.args.variables.now.items ++ of_arms c.args.arms.now) c.args.arms.now c.loop-arm.arm-index (omega arith) c.loop-arm.invariant

pub put_arms-put_node-requires : goal.put_arms-put_node-requires
put_arms-put_node-requires t c = search (rules, the_lemmas)

pub put_node-put_sched-requires : goal.put_node-put_sched-requires
put_node-put_sched-requires t c = search (rules, the_lemmas)

pub put_node-returns : goal.put_node-returns
put_node-returns t c = search (rules, the_lemmas)

pub put_nodes-put_node-requires : goal.put_nodes-put_node-requires
put_nodes-put_node-requires t c = search (rules, the_lemmas)

pub put_sched-put_nodes-requires : goal.put_sched-put_nodes-requires
put_sched-put_nodes-requires t c = search (rules, the_lemmas)

pub put_sched-put_nodes-requires-in-Disj : goal.put_sched-put_nodes-requires-in-Disj
put_sched-put_nodes-requires-in-Disj t c = search (rules, the_lemmas)

pub put_sched-put_arms-requires : goal.put_sched-put_arms-requires
put_sched-put_arms-requires t c = search (rules, the_lemmas)

pub put_sched-put_node-requires : goal.put_sched-put_node-requires
put_sched-put_node-requires t c = search (rules, the_lemmas)

pub put_sched-put_node-requires-in-Ite : goal.put_sched-put_node-requires-in-Ite
put_sched-put_node-requires-in-Ite t c = search (rules, the_lemmas)

pub put_sched-put_node-requires-in-Ite-2 : goal.put_sched-put_node-requires-in-Ite-2
put_sched-put_node-requires-in-Ite-2 t c = search (rules, the_lemmas)

pub put_sched-put_node-requires-in-Not : goal.put_sched-put_node-requires-in-Not
put_sched-put_node-requires-in-Not t c = search (rules, the_lemmas)

pub put_sched-put_node-requires-in-Some : goal.put_sched-put_node-requires-in-Some
put_sched-put_node-requires-in-Some t c = search (rules, the_lemmas)

pub put_sched-returns-in-Conj : goal.put_sched-returns-in-Conj
put_sched-returns-in-Conj t c = search (rules, the_lemmas)

pub put_sched-returns-in-Disj : goal.put_sched-returns-in-Disj
put_sched-returns-in-Disj t c = search (rules, the_lemmas)

pub put_sched-returns-in_ok-push-in-Switch : goal.put_sched-returns-in_ok-push-in-Switch
put_sched-returns-in_ok-push-in-Switch t c = search (rules, the_lemmas, common_steps)

pub put_sched-returns-in_ok-put_node-in-Ite-2 : goal.put_sched-returns-in_ok-put_node-in-Ite-2
put_sched-returns-in_ok-put_node-in-Ite-2 t c = search (rules, the_lemmas, common_steps)

pub put_sched-returns-in-Not : goal.put_sched-returns-in-Not
put_sched-returns-in-Not t c = search (rules, the_lemmas)

pub put_sched-returns-in_ok-put-in-Some : goal.put_sched-returns-in_ok-put-in-Some
put_sched-returns-in_ok-put-in-Some t c = search (rules, the_lemmas, common_steps)

pub put_sched-returns-in-Assign : goal.put_sched-returns-in-Assign
put_sched-returns-in-Assign t c = search (rules, the_lemmas)

pub put_sched-returns-in-Test : goal.put_sched-returns-in-Test
put_sched-returns-in-Test t c = search (rules, the_lemmas)

pub put_sched-returns-in-Build : goal.put_sched-returns-in-Build
put_sched-returns-in-Build t c = search (rules, the_lemmas)

pub put_sched-returns-in-Take : goal.put_sched-returns-in-Take
put_sched-returns-in-Take t c = search (rules, the_lemmas)

pub put_sched-returns-in-Const : goal.put_sched-returns-in-Const
put_sched-returns-in-Const t c = search (rules, the_lemmas)

pub put_sched-returns-in-TestConst : goal.put_sched-returns-in-TestConst
put_sched-returns-in-TestConst t c = search (rules, the_lemmas)

pub put_sched-returns-in-Call : goal.put_sched-returns-in-Call
put_sched-returns-in-Call t c = search (rules, the_lemmas)

pub put_sched-returns-in_ok-put-in-Apply : goal.put_sched-returns-in_ok-put-in-Apply
put_sched-returns-in_ok-put-in-Apply t c = search (rules, the_lemmas, common_steps)
