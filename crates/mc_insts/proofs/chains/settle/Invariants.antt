use Rattle.mc_insts.proofs.Chained.{Settling}
use Rattle.mc_insts.proofs.chains.settle.Given as goal

abbrev pub invariant-loop : goal.invariant-loop
invariant-loop l = Settling l.fn.chains l.chains l.fn.start l.lead l.at
