use Rattle.std.proofs.Common.{◌≡◌, ◌++◌, map}
use Rattle.mc_accepted.specs.Resolving.{steps_of}
use Rattle.mc_unresolved.specs.Unresolved.{plain_unresolved_clause}
use Rattle.mc_unresolved.specs.Steps.{plain_walk_step}
use Rattle.mc_unresolved.specs.code.Tasks.{agenda, weight}
use Rattle.mc_unresolved.proofs.tasks.walk_steps.Given as goal

abbrev pub invariant-loop-task : goal.invariant-loop-task
invariant-loop-task l = map plain_walk_step l.steps.items ++ agenda l.pending.items ≡ steps_of (plain_unresolved_clause l.clause)

abbrev pub decreases-loop-task : goal.decreases-loop-task
decreases-loop-task l = weight l.pending.items
