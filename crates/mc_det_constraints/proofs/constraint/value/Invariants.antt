use Rattle.std.proofs.Common.{◌≡◌, [], take}
use Rattle.mc_det_constraints.specs.Skeletons.{after_steps}
use Rattle.mc_det_constraints.specs.Least.{assigned}
use Rattle.mc_det_constraints.proofs.constraint.value.Given as goal

abbrev pub invariant-loop-step : goal.invariant-loop-step
invariant-loop-step l = l.stack ≡ after_steps (assigned l.dets) (take l.step-index l.steps) []
