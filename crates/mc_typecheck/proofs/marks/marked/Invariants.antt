use Rattle.std.proofs.Common.{◌≡◌, map, take}
use Rattle.mc_unresolved.specs.Steps.{plain_walk_step}
use Rattle.mc_typecheck.specs.code.Marking.{marking, first_marking, after_all}
use Rattle.mc_typecheck.proofs.marks.marked.Given as goal

abbrev pub invariant-loop-step : goal.invariant-loop-step
invariant-loop-step l = marking l.marks ≡ after_all (take l.step-index (map plain_walk_step l.steps)) (first_marking l.vars)
