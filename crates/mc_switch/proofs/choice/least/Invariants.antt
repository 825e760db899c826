use Rattle.std.proofs.Common.{◌≡◌, ◌≤◌, length, drop, true}
use Rattle.mc_accepted.specs.Least.{least}
use Rattle.mc_switch.proofs.choice.least.Given as goal

abbrev pub invariant-loop-n : goal.invariant-loop-n
invariant-loop-n l = record {
  left : l.n ≤ length l.xs;
  least : l.found ≡ least (λ _. true) (drop l.n l.xs);
}

abbrev pub decreases-loop-n : goal.decreases-loop-n
decreases-loop-n l = l.n
