use Rattle.std.proofs.Common.{◌<◌, length}
use Rattle.mc_insts.specs.code.Chains.{Comes}
use Rattle.mc_insts.proofs.chains.walk.Given as goal

abbrev pub invariant-loop-step : goal.invariant-loop-step
invariant-loop-step l = record {
  there : l.at < length l.chains;
  comes : Comes l.chains l.start l.at;
  passed : Comes l.chains l.passed l.at;
}
