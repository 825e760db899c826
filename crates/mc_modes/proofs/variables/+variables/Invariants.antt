use Rattle.std.proofs.Common.{◌≡◌, ◌++◌, map, drop}
use Rattle.mc_model.specs.Flat.{flats, variables_of_all}
use Rattle.mc_model.specs.PlainGoals.{plain_flat}
use Rattle.mc_modes.proofs.variables.+variables.Given as goal

abbrev pub invariant-push_all_variables-loop-goal : goal.invariant-push_all_variables-loop-goal
invariant-push_all_variables-loop-goal l =
    l.list.items ++ variables_of_all (flats (map plain_flat (drop l.goal-index l.goals))) ≡ l.fn.list.items ++ variables_of_all (flats (map plain_flat l.goals))
