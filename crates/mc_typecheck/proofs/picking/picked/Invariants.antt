use Rattle.mc_typecheck.proofs.Picked.{PicksSoFar}
use Rattle.mc_typecheck.proofs.picking.picked.Given as goal

abbrev pub invariant-loop-step : goal.invariant-loop-step
invariant-loop-step l = PicksSoFar l.signatures l.steps l.choices l.step-index l.picking
