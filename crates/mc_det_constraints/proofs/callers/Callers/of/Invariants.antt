use Rattle.mc_det_constraints.specs.code.Callers.{AreCallersOf}
use Rattle.mc_det_constraints.proofs.callers.Callers.of.Given as goal

abbrev pub invariant-loop-p : goal.invariant-loop-p
invariant-loop-p l = AreCallersOf l.bodies l.p l.callers
