use Rattle.std.proofs.Common.{◌≡◌, ◌++◌, map, drop}
use Rattle.mc_model.specs.Scheduled.{nodes}
use Rattle.mc_model.specs.PlainGoals.{plain_node}
use Rattle.mc_accepted.specs.Switched.{openings_all}
use Rattle.mc_switch.specs.Openings.{plain_openings}
use Rattle.mc_switch.proofs.opening.+openings.Given as goal

abbrev pub invariant-push_equations-loop-goal : goal.invariant-push_equations-loop-goal
invariant-push_equations-loop-goal l =
    plain_openings l.opened.items ++ openings_all (nodes (map plain_node (drop l.goal-index l.goals)))
    ≡ plain_openings l.initial.opened.items ++ openings_all (nodes (map plain_node l.goals))
