use Rattle.std.proofs.Common.{◌≤◌}
use Rattle.mc_unresolved.specs.declared.term.Unresolved.{size-Unresolved}
use Rattle.mc_unresolved.proofs.term.Unresolved.+drop.Given as goal

abbrev pub invariant-loop-self : goal.invariant-loop-self
invariant-loop-self l = size-Unresolved l.self ≤ size-Unresolved l.initial.self
