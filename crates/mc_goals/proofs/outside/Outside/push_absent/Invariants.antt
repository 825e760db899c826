use Rattle.std.proofs.Common.{◌≡◌, ◌++◌, drop}
use Rattle.mc_goals.specs.code.Outside.{count, absent}
use Rattle.mc_goals.proofs.outside.Outside.push_absent.Given as goal

abbrev pub invariant-loop-variable : goal.invariant-loop-variable
invariant-loop-variable l =
    l.list.items ++ absent (count l.self) (drop l.variable-index l.variables) ≡ l.fn.list.items ++ absent (count l.self) l.variables
