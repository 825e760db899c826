use Rattle.std.proofs.Common.{get_or, take, sym, subst, arith}
use Rattle.std.proofs.lemmas.List.{take_more}
use Rattle.mc_model.specs.declared.inst.InstRef.TheVariants.{Old}
use Rattle.mc_insts.specs.Defining.{AllFitThere}
use Rattle.test_support.proofs.Seen.{all_push}
use Rattle.test_support.proofs.fits.args_fit.Goals as goal

pub loop-arg-preserved : goal.loop-arg-preserved
loop-arg-preserved c =
    let n = c.args.nodes in
    let m = c.args.definitions in
    let rs = c.args.args.now in
    let k = c.loop-arg.arg-index in
    subst (AllFitThere n m) (sym (take_more rs k (Old 0) (omega arith)))
    (all_push n m (take k rs) (get_or rs k (Old 0)) c.loop-arg.invariant (c.inst_fits.ensures c.if-not-inst_fits.false))
