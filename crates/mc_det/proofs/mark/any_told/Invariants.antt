use Rattle.std.proofs.Common.{◌≡◌, ◌≤◌, length, drop, map}
use Rattle.mc_source.specs.Determinism.{inferred}
use Rattle.mc_model.specs.Scheduled.{nodes}
use Rattle.mc_model.specs.PlainGoals.{plain_node}
use Rattle.mc_det.specs.code.Marks.{any_told}
use Rattle.mc_det.proofs.mark.any_told.Given as goal

abbrev pub invariant-loop-n : goal.invariant-loop-n
invariant-loop-n l = record {
  left : l.n ≤ length l.goals;
  told : l.det ≡ inferred (any_told (nodes (map plain_node (drop l.n l.goals))));
}

abbrev pub decreases-loop-n : goal.decreases-loop-n
decreases-loop-n l = l.n
