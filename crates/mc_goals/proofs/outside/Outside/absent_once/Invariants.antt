use Rattle.std.proofs.Common.{◌≡◌, take}
use Rattle.mc_model.specs.Lists.{once}
use Rattle.mc_goals.specs.code.Outside.{count, more, absent}
use Rattle.mc_goals.proofs.outside.Outside.absent_once.Given as goal

abbrev pub invariant-loop-variable : goal.invariant-loop-variable
invariant-loop-variable l = record {
  own : l.own.items ≡ once (absent (count l.fn.self) (take l.variable-index l.variables));
  counts : count l.self ≡ more (count l.fn.self) l.own.items;
}
