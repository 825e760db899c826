use Rattle.std.proofs.Common.{◌≤◌}
use Rattle.mc_unresolved.specs.declared.goal.UnresolvedGoal.{size-UnresolvedGoal}
use Rattle.mc_unresolved.proofs.goal.UnresolvedGoal.+drop.Given as goal

abbrev pub invariant-loop-self : goal.invariant-loop-self
invariant-loop-self l = size-UnresolvedGoal l.self ≤ size-UnresolvedGoal l.initial.self
