use Rattle.std.proofs.Common.{◌≡◌, ◌≤◌, length, drop}
use Rattle.mc_accepted.specs.Accepted.{entered}
use Rattle.mc_det.specs.code.Points.{insts_in}
use Rattle.mc_det.proofs.point.Point.entered.Given as goal

abbrev pub invariant-loop-n : goal.invariant-loop-n
invariant-loop-n l = record {
  head : l.n ≤ length l.head;
  first : l.n ≤ length l.first;
  count : length l.point ≡ l.fn.variables;
  insts : insts_in l.point ≡ entered (drop l.n l.head) (drop l.n l.first);
}

abbrev pub decreases-loop-n : goal.decreases-loop-n
decreases-loop-n l = l.n
