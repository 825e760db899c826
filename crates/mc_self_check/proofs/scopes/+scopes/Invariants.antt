use Rattle.std.proofs.Common.{◌↔◌, ◌+◌, ◌*◌, map, drop}
use denote.Param.Weighed.{most}
use Rattle.mc_program.specs.declared.program.Goal.{size-Goal}
use Rattle.mc_program.specs.PlainPrograms.{plain_goal, formulas}
use Rattle.mc_self_check.specs.code.WrittenScopes.{PartsIn, DisjunctsIn}
use Rattle.mc_self_check.proofs.scopes.+scopes.Given as goal

abbrev pub decreases-has_scopes : goal.decreases-has_scopes
decreases-has_scopes l = 3 * size-Goal l.goal.now

abbrev pub decreases-has_scopes_under : goal.decreases-has_scopes_under
decreases-has_scopes_under l = 3 * size-Goal l.goal.now + 1

abbrev pub decreases-has_scopes_beside : goal.decreases-has_scopes_beside
decreases-has_scopes_beside l = 3 * size-Goal l.goal.now + 2

abbrev pub decreases-part_has_scopes : goal.decreases-part_has_scopes
decreases-part_has_scopes l = 3 * size-Goal l.goal.now + 1

abbrev pub decreases-parts_have_scopes : goal.decreases-parts_have_scopes
decreases-parts_have_scopes l = 3 * most size-Goal l.goals.now + 2

abbrev pub decreases-disjuncts_have_scopes : goal.decreases-disjuncts_have_scopes
decreases-disjuncts_have_scopes l = 3 * most size-Goal l.goals.now + 1

abbrev pub invariant-parts_have_scopes-loop-place : goal.invariant-parts_have_scopes-loop-place
invariant-parts_have_scopes-loop-place l =
    PartsIn l.before.items l.around (formulas (map plain_goal (drop l.place l.goals)))
    ↔ PartsIn l.outside l.around (formulas (map plain_goal l.goals))

abbrev pub invariant-disjuncts_have_scopes-loop-goal : goal.invariant-disjuncts_have_scopes-loop-goal
invariant-disjuncts_have_scopes-loop-goal l =
    DisjunctsIn l.outside l.around (formulas (map plain_goal (drop l.goal-index l.goals)))
    ↔ DisjunctsIn l.outside l.around (formulas (map plain_goal l.goals))
