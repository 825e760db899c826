use Rattle.std.proofs.Math.Seq.{drop-length}
use Rattle.std.proofs.Common.{◌≡◌, suc, ◌-◌, ◌<◌, List, length, get_or, drop, map, sym, ap, ◌∙◌, arith}
use Rattle.mc_source.specs.Determinism.{inferred, row_of, conj}
use Rattle.mc_source.specs.declared.det.Det.{Det}
use Rattle.mc_model.specs.Scheduled.{nodes}
use Rattle.mc_model.specs.PlainGoals.{plain_node}
use Rattle.mc_model.specs.declared.sched.GoalNode.{GoalNode}
use Rattle.mc_det.specs.code.Marks.{all_told}
use Rattle.mc_det.proofs.Telling.{all_from}
use Rattle.mc_det.proofs.mark.all_told.Goals as goal

pub loop-n-init : goal.loop-n-init
loop-n-init c =
    record {
      left = omega arith;
      told = ap (λ (l : List GoalNode). inferred (all_told (nodes (map plain_node l)))) (sym (drop-length c.args.goals.now));
    }

pub loop-n-preserved : goal.loop-n-preserved
loop-n-preserved c =
    let gs = c.args.goals.now in
    let k = c.loop-n.n - 1 in
    let n : c.loop-n.n ≡ suc k = omega arith in
    let h = c.loop-n.invariant.left in
    let lt : k < length gs = omega arith in
    let g : GoalNode = c.index-goals-n.result in
    record {
      left = omega arith;
      told =
          c.conj-det.ensures
          ∙ ap (λ (d : Det). inferred (conj (row_of (get_or gs k g).det) (row_of d))) (c.loop-n.invariant.told ∙ ap (λ m. inferred (all_told (nodes (map plain_node (drop m gs))))) n)
          ∙ ap inferred (all_from gs k g lt);
    }
