use Rattle.std.proofs.Common.{◌↔◌, drop}
use Rattle.mc_self_check.specs.code.WrittenScopes.{NoneIn}
use Rattle.mc_self_check.proofs.scopes.are_apart.Given as goal

abbrev pub invariant-loop-variable : goal.invariant-loop-variable
invariant-loop-variable l = NoneIn (drop l.variable-index l.variables) l.others ↔ NoneIn l.variables l.others
