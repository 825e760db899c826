use Rattle.std.proofs.Common.{◌≤◌}
use Rattle.mc_program.specs.declared.program.Goal.{size-Goal}
use Rattle.mc_program.proofs.program.Goal.+drop.Given as goal

abbrev pub invariant-loop-self : goal.invariant-loop-self
invariant-loop-self l = size-Goal l.self ≤ size-Goal l.initial.self
