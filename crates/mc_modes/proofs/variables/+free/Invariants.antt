use Rattle.std.proofs.Common.{◌≡◌, ◌++◌, map, drop}
use Rattle.mc_model.specs.Flat.{flats, free_in_all}
use Rattle.mc_model.specs.PlainGoals.{plain_flat}
use Rattle.mc_modes.proofs.variables.+free.Given as goal

abbrev pub invariant-push_all_free-loop-goal : goal.invariant-push_all_free-loop-goal
invariant-push_all_free-loop-goal l =
    l.list.items ++ free_in_all (flats (map plain_flat (drop l.goal-index l.goals))) ≡ l.fn.list.items ++ free_in_all (flats (map plain_flat l.goals))
