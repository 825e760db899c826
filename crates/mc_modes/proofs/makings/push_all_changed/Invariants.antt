use Rattle.std.proofs.Common.{◌≡◌, ◌++◌, map, drop}
use Rattle.mc_model.specs.PlainGoals.{plain_flat}
use Rattle.mc_modes.specs.code.Sleeping.{changed_by_each}
use Rattle.mc_modes.proofs.makings.push_all_changed.Given as goal

abbrev pub invariant-loop-goal : goal.invariant-loop-goal
invariant-loop-goal l =
    l.list.items ++ changed_by_each (map plain_flat (drop l.goal-index l.goals)) ≡ l.fn.list.items ++ changed_by_each (map plain_flat l.goals)
