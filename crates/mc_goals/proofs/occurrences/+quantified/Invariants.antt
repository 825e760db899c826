use Rattle.std.proofs.Common.{◌≡◌, ◌++◌, map, drop}
use Rattle.mc_program.specs.PlainPrograms.{plain_goal, formulas}
use Rattle.mc_accepted.specs.Normal.{named_by_quantifiers_of_all}
use Rattle.mc_goals.proofs.occurrences.+quantified.Given as goal

abbrev pub invariant-push_all_named-loop-goal : goal.invariant-push_all_named-loop-goal
invariant-push_all_named-loop-goal l =
    l.list.items ++ named_by_quantifiers_of_all (formulas (map plain_goal (drop l.goal-index l.goals))) ≡ l.fn.list.items ++ named_by_quantifiers_of_all (formulas (map plain_goal l.goals))
