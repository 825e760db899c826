use Rattle.std.proofs.Common.{◌≤◌, length, drop}
use Rattle.mc_switch.specs.code.Labels.{AreFirst}
use Rattle.mc_switch.proofs.disjunct.first_labels.Given as goal

abbrev pub invariant-loop-n : goal.invariant-loop-n
invariant-loop-n l = record {
  left : l.n ≤ length l.opens;
  first : AreFirst l.labels (drop l.n l.opens);
}

abbrev pub decreases-loop-n : goal.decreases-loop-n
decreases-loop-n l = l.n
