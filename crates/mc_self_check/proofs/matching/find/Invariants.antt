use Rattle.std.proofs.Common.{◌≡◌, drop}
use Rattle.mc_self_check.specs.code.Bindings.{bound_to}
use Rattle.mc_self_check.proofs.matching.find.Given as goal

abbrev pub invariant-loop-binding : goal.invariant-loop-binding
invariant-loop-binding l = bound_to (drop l.binding-index l.bound) l.variable ≡ bound_to l.bound l.variable
