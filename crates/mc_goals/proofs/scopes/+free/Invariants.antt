use Rattle.std.proofs.Common.{◌≡◌, ◌++◌, map, drop}
use Rattle.mc_program.specs.PlainPrograms.{plain_goal, formulas}
use Rattle.mc_goals.specs.code.Outside.{count, free_by_all}
use Rattle.mc_goals.proofs.scopes.+free.Given as goal

abbrev pub invariant-push_all_free-loop-goal : goal.invariant-push_all_free-loop-goal
invariant-push_all_free-loop-goal l =
    let outside = count l.fn.outside in
    record {
      free : l.list.items ++ free_by_all outside (formulas (map plain_goal (drop l.goal-index l.goals))) ≡ l.fn.list.items ++ free_by_all outside (formulas (map plain_goal l.goals));
      counts : count l.outside ≡ outside;
    }
