use Rattle.std.proofs.Common.{◌≤◌, length, drop}
use Rattle.mc_switch.specs.code.Choices.{IsLeastOf}
use Rattle.mc_switch.proofs.choice.least_covered.Given as goal

abbrev pub invariant-loop-n : goal.invariant-loop-n
invariant-loop-n l = record {
  left : l.n ≤ length l.xs;
  least : IsLeastOf l.procs l.types l.insts l.disjuncts (drop l.n l.xs) l.found;
}

abbrev pub decreases-loop-n : goal.decreases-loop-n
decreases-loop-n l = l.n
