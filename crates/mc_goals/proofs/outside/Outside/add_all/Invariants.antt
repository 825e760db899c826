use Rattle.std.proofs.Common.{◌≡◌, take}
use Rattle.mc_goals.specs.code.Outside.{count, more}
use Rattle.mc_goals.proofs.outside.Outside.add_all.Given as goal

abbrev pub invariant-loop-variable : goal.invariant-loop-variable
invariant-loop-variable l = count l.self ≡ more (count l.fn.self) (take l.variable-index l.variables)
