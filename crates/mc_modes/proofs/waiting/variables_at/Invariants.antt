use Rattle.std.proofs.Common.{◌≡◌, ◌++◌, drop}
use Rattle.mc_modes.specs.code.Waiting.{goals_at, variables_of_each}
use Rattle.mc_modes.proofs.waiting.variables_at.Given as goal

abbrev pub invariant-loop-place : goal.invariant-loop-place
invariant-loop-place l =
    l.list.items ++ variables_of_each (goals_at l.goals (drop l.place l.waiting))
    ≡ variables_of_each (goals_at l.goals l.waiting)
