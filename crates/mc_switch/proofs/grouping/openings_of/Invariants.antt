use Rattle.std.proofs.Common.{◌≡◌, ◌≤◌, length, map, drop}
use Rattle.mc_accepted.specs.Switched.{openings_of}
use Rattle.mc_switch.specs.code.Labels.{plain_opened}
use Rattle.mc_switch.proofs.grouping.openings_of.Given as goal

abbrev pub invariant-loop-n : goal.invariant-loop-n
invariant-loop-n l = record {
  left : l.n ≤ length l.disjuncts;
  count : l.count ≡ openings_of (map plain_opened (drop l.n l.disjuncts));
}

abbrev pub decreases-loop-n : goal.decreases-loop-n
decreases-loop-n l = l.n
