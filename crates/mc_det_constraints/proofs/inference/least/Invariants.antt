use Rattle.std.proofs.Common.{◌+◌, ◌*◌, ◌^◌, length}
use Rattle.std.specs.List.{sum_by}
use Rattle.mc_det_constraints.specs.code.Pending.{IsPending}
use Rattle.mc_det_constraints.specs.code.Raising.{room}
use Rattle.mc_det_constraints.proofs.Raising.{Standing}
use Rattle.mc_det_constraints.proofs.inference.least.Given as goal

abbrev pub invariant-loop-p : goal.invariant-loop-p
invariant-loop-p l =
    record {
      standing : Standing l.bodies l.declared l.dets.items l.left.list.items;
      pending : IsPending l.left;
    }

abbrev pub decreases-loop-p : goal.decreases-loop-p
decreases-loop-p l = sum_by room l.dets.items * 2 ^ 64 + length l.left.list.items
