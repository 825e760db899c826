use Rattle.std.proofs.Common.{◌≡◌, ◌≤◌, length, drop}
use Rattle.mc_accepted.specs.Ordered.{change_at}
use Rattle.mc_det.specs.code.Points.{insts_in, undone}
use Rattle.mc_det.proofs.point.Point.enter.Given as goal

abbrev pub invariant-loop-n : goal.invariant-loop-n
invariant-loop-n l = record {
  left : l.n ≤ length l.changes;
  count : length l.self ≡ length l.fn.self;
  insts : insts_in l.self ≡ (λ x. change_at x (drop l.n l.changes) (insts_in l.fn.self x));
  found : undone l.found.items l.self ≡ undone l.fn.found.items l.fn.self;
}

abbrev pub decreases-loop-n : goal.decreases-loop-n
decreases-loop-n l = l.n
