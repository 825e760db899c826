use Rattle.std.proofs.Common.{◌≡◌, ◌++◌, drop}
use Rattle.mc_det.proofs.Gathering.{of_goals, of_arms}
use Rattle.mc_det.proofs.variables.+variables.Given as goal

abbrev pub invariant-put_nodes-loop-goal : goal.invariant-put_nodes-loop-goal
invariant-put_nodes-loop-goal l =
    l.variables.items ++ of_goals (drop l.goal-index l.goals) ≡ l.fn.variables.items ++ of_goals l.goals

abbrev pub invariant-put_arms-loop-arm : goal.invariant-put_arms-loop-arm
invariant-put_arms-loop-arm l =
    l.variables.items ++ of_arms (drop l.arm-index l.arms) ≡ l.fn.variables.items ++ of_arms l.arms
