use Rattle.std.proofs.Common.{take}
use Rattle.mc_det_constraints.specs.code.Callers.{PutCalls}
use Rattle.mc_det_constraints.proofs.callers.Callers.put_calls.Given as goal

abbrev pub invariant-loop-step : goal.invariant-loop-step
invariant-loop-step l = PutCalls l.p (take l.step-index l.steps) l.fn.self l.self
