use Rattle.mc_typecheck.specs.Walked.{IsAt}
use Rattle.mc_typecheck.proofs.Steps.{SoFar}
use Rattle.mc_typecheck.proofs.walking.walked.Given as goal

abbrev pub invariant-loop-step : goal.invariant-loop-step
invariant-loop-step l = SoFar (λ P D w s. IsAt P D l.signatures w s) l.signatures l.steps l.vars l.step-index l.walk
