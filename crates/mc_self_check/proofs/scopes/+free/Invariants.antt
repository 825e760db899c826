use Rattle.std.proofs.Common.{◌↔◌, ◌+◌, ◌*◌, map, drop}
use denote.Param.Weighed.{most}
use Rattle.mc_program.specs.declared.program.Goal.{size-Goal}
use Rattle.mc_program.specs.PlainPrograms.{plain_goal, formulas}
use Rattle.mc_self_check.specs.code.WrittenScopes.{AllFreeIn}
use Rattle.mc_self_check.proofs.scopes.+free.Given as goal

abbrev pub decreases-free_among : goal.decreases-free_among
decreases-free_among l = 2 * size-Goal l.goal.now

abbrev pub decreases-free_under : goal.decreases-free_under
decreases-free_under l = 2 * size-Goal l.goal.now + 1

abbrev pub decreases-all_free_among : goal.decreases-all_free_among
decreases-all_free_among l = 2 * most size-Goal l.goals.now + 1

abbrev pub invariant-all_free_among-loop-goal : goal.invariant-all_free_among-loop-goal
invariant-all_free_among-loop-goal l =
    AllFreeIn l.known (formulas (map plain_goal (drop l.goal-index l.goals)))
    ↔ AllFreeIn l.known (formulas (map plain_goal l.goals))
