use Rattle.std.proofs.Common.{◌↔◌, drop}
use Rattle.mc_self_check.specs.code.WrittenScopes.{AllIn}
use Rattle.mc_self_check.proofs.scopes.are_among.Given as goal

abbrev pub invariant-loop-variable : goal.invariant-loop-variable
invariant-loop-variable l = AllIn (drop l.variable-index l.variables) l.others ↔ AllIn l.variables l.others
