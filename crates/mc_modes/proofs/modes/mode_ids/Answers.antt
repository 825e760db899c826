use Rattle.std.proofs.Common.{◌<◌, length, Vec, Global, ap, ◌∙◌, arith}
use Rattle.mc_modes.specs.declared.modes.ModeId.{ModeId}
use Rattle.mc_modes.proofs.Ids.{with_pred, without_pred}
use Rattle.mc_modes.proofs.modes.mode_ids.Goals as goal
use Rattle.mc_modes.proofs.modes.mode_ids.Goals.{then-is_none+in_ok-add_ids, else-is_none}

pub loop-pred-preserved : goal.loop-pred-preserved
loop-pred-preserved c =
    let P = c.args.program.now in
    let k = c.loop-pred.pred in
    let lt : k < length P.preds = omega (arith, c.loop-pred-test.true, c.len-pred-end.ensures) in
    elim c.if-is_none.branch [
      | then-is_none+in_ok-add_ids w ↦
          with_pred P c.args.sigs.now k w.mode_count.result c.get.result.now c.is_none.result c.loop-pred.ids.items c.if-is_none.ids.items lt c.get.ensures c.is_none.ensures w.if-is_none.true w.mode_count.ensures c.loop-pred.invariant
          (ap (λ (v : Vec ModeId Global). v.items) w.ids-is ∙ w.in_ok-add_ids.ensures {u = tt})
      | else-is_none w ↦
          without_pred P c.args.sigs.now k c.get.result.now c.is_none.result c.loop-pred.ids.items c.if-is_none.ids.items lt c.get.ensures c.is_none.ensures w.if-is_none.false c.loop-pred.invariant
          (ap (λ (v : Vec ModeId Global). v.items) w.ids-is)
    ]
