use Rattle.std.proofs.Math.Seq.{drop-length}
use Rattle.std.proofs.Common.{◌≡◌, suc, ◌-◌, ◌<◌, List, length, get_or, drop, map, sym, ap, ◌∙◌, arith}
use Rattle.mc_source.specs.Determinism.{inferred, row_of}
use Rattle.mc_source.specs.declared.det.Det.{Det}
use Rattle.mc_model.specs.PlainGoals.{plain_arm, arms_of}
use Rattle.mc_model.specs.declared.sched.Arm.{Arm}
use Rattle.mc_accepted.specs.Inferred.{join}
use Rattle.mc_det.specs.code.Marks.{arms_told}
use Rattle.mc_det.proofs.Telling.{arms_from}
use Rattle.mc_det.proofs.mark.arms_told.Goals as goal

pub loop-n-init : goal.loop-n-init
loop-n-init c =
    record {
      left = omega arith;
      told = ap (λ (l : List Arm). inferred (arms_told (arms_of (map plain_arm l)))) (sym (drop-length c.args.arms.now));
    }

pub loop-n-preserved : goal.loop-n-preserved
loop-n-preserved c =
    let arms = c.args.arms.now in
    let k = c.loop-n.n - 1 in
    let n : c.loop-n.n ≡ suc k = omega arith in
    let h = c.loop-n.invariant.left in
    let lt : k < length arms = omega arith in
    let a : Arm = c.index-arms-n.result in
    record {
      left = omega arith;
      told =
          c.either-det.ensures
          ∙ ap (λ (d : Det). inferred (join (row_of (get_or arms k a).body.det) (row_of d))) (c.loop-n.invariant.told ∙ ap (λ m. inferred (arms_told (arms_of (map plain_arm (drop m arms))))) n)
          ∙ ap inferred (arms_from arms k a lt);
    }
