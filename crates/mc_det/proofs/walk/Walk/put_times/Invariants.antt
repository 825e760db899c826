use Rattle.mc_det.specs.code.Walks.{times, PutSteps}
use Rattle.mc_det.proofs.walk.Walk.put_times.Given as goal

abbrev pub invariant-loop : goal.invariant-loop
invariant-loop l = PutSteps l.fn.self l.self (times l.counter l.step)
