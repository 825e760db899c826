use Rattle.std.proofs.Common.{subst}
use Rattle.mc_model.specs.PlainGoals.{plain_node}
use Rattle.mc_model.specs.declared.sched.GoalNode.{GoalNode}
use Rattle.mc_flat_code.specs.code.Answering.{Once}
use Rattle.mc_flat_code.proofs.Marked.{goal_once}
use Rattle.mc_flat_code.proofs.once.+once.Goals as goal

pub all_answer_once-loop-goal-preserved : goal.all_answer_once-loop-goal-preserved
all_answer_once-loop-goal-preserved t c =
    goal_once c.args.goals.now c.loop-goal.goal-index c.goal-item.result c.loop-goal-test.true c.loop-goal.invariant
    (subst (λ (g : GoalNode). Once (plain_node g)) c.goal-item.is (c.node_answers_once.ensures c.if-not-node_answers_once.false))
