use Rattle.std.proofs.Common.{◌≡◌, map, take}
use Rattle.mc_goals.specs.code.Numbering.{number_at}
use Rattle.mc_goals.proofs.numbers.Numbers.all.Given as goal

abbrev pub invariant-loop-variable : goal.invariant-loop-variable
invariant-loop-variable l = l.numbers.items ≡ map (number_at l.self) (take l.variable-index l.variables)
