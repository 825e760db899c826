use Rattle.std.proofs.Common.{ℕ, ◌<◌, get_or}
use Rattle.mc_types.specs.declared.steps.Step.{Step}
use Rattle.mc_types.specs.Typed.{Proper}
use Rattle.mc_types.proofs.proper.is_proper.Given as goal

abbrev pub invariant-loop-step : goal.invariant-loop-step
invariant-loop-step l = (k : ℕ) (d : Step) → k < l.step-index → Proper l.signatures l.places (get_or l.steps k d)
