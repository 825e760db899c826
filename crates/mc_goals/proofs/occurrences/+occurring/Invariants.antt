use Rattle.std.proofs.Common.{◌≡◌, ◌++◌, map, drop}
use Rattle.mc_program.specs.PlainPrograms.{plain_goal, formulas}
use Rattle.mc_accepted.specs.Scope.{occurring_all}
use Rattle.mc_goals.proofs.occurrences.+occurring.Given as goal

abbrev pub invariant-push_all_occurring-loop-goal : goal.invariant-push_all_occurring-loop-goal
invariant-push_all_occurring-loop-goal l =
    l.list.items ++ occurring_all (formulas (map plain_goal (drop l.goal-index l.goals))) ≡ l.fn.list.items ++ occurring_all (formulas (map plain_goal l.goals))
