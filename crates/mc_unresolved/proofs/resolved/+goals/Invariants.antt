use Rattle.std.proofs.Common.{◌≡◌, ◌+◌, ◌*◌, ◌++◌, max, map, drop}
use denote.Param.Weighed.{most}
use Rattle.mc_program.specs.PlainPrograms.{plain_goal}
use Rattle.mc_unresolved.specs.Unresolved.{plain_unresolved_goal}
use Rattle.mc_unresolved.specs.code.Picked.{resolved_goal_list}
use Rattle.mc_unresolved.specs.declared.goal.UnresolvedGoal.{size-UnresolvedGoal}
use Rattle.mc_unresolved.proofs.resolved.+goals.Given as goal

abbrev pub decreases-make_goal : goal.decreases-make_goal
decreases-make_goal l = 3 * size-UnresolvedGoal l.goal.now

abbrev pub decreases-make_part : goal.decreases-make_part
decreases-make_part l = 3 * size-UnresolvedGoal l.part.now + 1

abbrev pub decreases-make_choice : goal.decreases-make_choice
decreases-make_choice l =
    3 * max (max (size-UnresolvedGoal l.condition.now) (size-UnresolvedGoal l.then_part.now)) (size-UnresolvedGoal l.else_part.now) + 2

abbrev pub decreases-make_goals : goal.decreases-make_goals
decreases-make_goals l = 3 * most size-UnresolvedGoal l.parts.now + 1

abbrev pub invariant-make_goals-loop-part : goal.invariant-make_goals-loop-part
invariant-make_goals-loop-part l =
    let rest = resolved_goal_list (map plain_unresolved_goal (drop l.part-index l.parts)) l.picks.rest.now in
    (map plain_goal l.made.items ++ rest.0, rest.1) ≡ resolved_goal_list (map plain_unresolved_goal l.parts) l.fn.picks.rest.now
