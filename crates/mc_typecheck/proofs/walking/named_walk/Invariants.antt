use Rattle.mc_typecheck.specs.NamedWalks.{IsNamedAt}
use Rattle.mc_typecheck.proofs.Steps.{SoFar}
use Rattle.mc_typecheck.proofs.walking.named_walk.Given as goal

abbrev pub invariant-loop-step : goal.invariant-loop-step
invariant-loop-step l = SoFar (λ P D w s. IsNamedAt P D w s) l.signatures l.steps l.vars l.step-index l.walk
