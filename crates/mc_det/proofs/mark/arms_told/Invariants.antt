use Rattle.std.proofs.Common.{◌≡◌, ◌≤◌, length, drop, map}
use Rattle.mc_source.specs.Determinism.{inferred}
use Rattle.mc_model.specs.PlainGoals.{plain_arm, arms_of}
use Rattle.mc_det.specs.code.Marks.{arms_told}
use Rattle.mc_det.proofs.mark.arms_told.Given as goal

abbrev pub invariant-loop-n : goal.invariant-loop-n
invariant-loop-n l = record {
  left : l.n ≤ length l.arms;
  told : l.det ≡ inferred (arms_told (arms_of (map plain_arm (drop l.n l.arms))));
}

abbrev pub decreases-loop-n : goal.decreases-loop-n
decreases-loop-n l = l.n
