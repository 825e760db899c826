use Rattle.std.proofs.Common.{◌≡◌, ◌+◌, ◌*◌, ◌++◌, max, map, drop}
use denote.Param.Weighed.{most}
use Rattle.mc_program.specs.PlainPrograms.{plain_goal, formulas}
use Rattle.mc_program.specs.declared.program.Goal.{size-Goal}
use Rattle.mc_accepted.specs.Scope.{occurring_all}
use Rattle.mc_goals.specs.code.Outside.{count, more, parts_by, disjuncts_by}
use Rattle.mc_goals.proofs.scopes.+scopes.Given as goal

abbrev pub decreases-scoped_goal : goal.decreases-scoped_goal
decreases-scoped_goal l = 4 * size-Goal l.goal.now

abbrev pub decreases-scoped_part : goal.decreases-scoped_part
decreases-scoped_part l = 4 * size-Goal l.goal.now + 1

abbrev pub decreases-part : goal.decreases-part
decreases-part l = 4 * size-Goal l.goal.now + 1

abbrev pub decreases-beside : goal.decreases-beside
decreases-beside l = 4 * size-Goal l.goal.now + 2

abbrev pub decreases-scoped_under : goal.decreases-scoped_under
decreases-scoped_under l = 4 * size-Goal l.goal.now + 2

abbrev pub decreases-scoped_choice : goal.decreases-scoped_choice
decreases-scoped_choice l =
    4 * max (max (size-Goal l.condition.now) (size-Goal l.then_part.now)) (size-Goal l.else_part.now) + 3

abbrev pub decreases-parts : goal.decreases-parts
decreases-parts l = 4 * most size-Goal l.goals.now + 2

abbrev pub decreases-disjuncts : goal.decreases-disjuncts
decreases-disjuncts l = 4 * most size-Goal l.goals.now + 1

abbrev pub invariant-parts-loop-goal : goal.invariant-parts-loop-goal
invariant-parts-loop-goal l =
    let within = more (count l.fn.outside) (occurring_all (formulas (map plain_goal l.goals))) in
    record {
      goals : map plain_goal l.made.items ++ parts_by within (formulas (map plain_goal (drop l.goal-index l.goals))) ≡ parts_by within (formulas (map plain_goal l.goals));
      counts : count l.outside ≡ within;
    }

abbrev pub invariant-disjuncts-loop-goal : goal.invariant-disjuncts-loop-goal
invariant-disjuncts-loop-goal l =
    let outside = count l.fn.outside in
    record {
      goals : map plain_goal l.made.items ++ disjuncts_by outside (formulas (map plain_goal (drop l.goal-index l.goals))) ≡ disjuncts_by outside (formulas (map plain_goal l.goals));
      counts : count l.outside ≡ outside;
    }
