use Rattle.std.proofs.Common.{◌≡◌, ◌<◌, ◌≤◌, length, ap, ◌∙◌, arith}
use Rattle.mc_program.specs.declared.program.Program.{Program}
use Rattle.mc_analysis.proofs.Parts.{not_all, one_more, all_of_them}
use Rattle.mc_analysis.proofs.goals.goals_fit.Goals as goal

pub returns-then-not-pred_fits : goal.returns-then-not-pred_fits
returns-then-not-pred_fits c =
    let q = c.args.procs.now in
    let end : c.len-pred-end.result ≡ length q.program.preds = c.len-pred-end.ensures ∙ ap (λ (x : Program). length x.preds) c.program.ensures in
    let lt : c.loop-pred.pred < length q.program.preds = omega (arith, c.loop-pred-test.true, end) in
    not_all q c.args.sigs.now c.args.goals.now c.loop-pred.pred c.pred_fits.result c.if-not-pred_fits.true lt c.pred_fits.ensures

pub loop-pred-preserved : goal.loop-pred-preserved
loop-pred-preserved c =
    one_more c.args.procs.now c.args.sigs.now c.args.goals.now c.loop-pred.pred c.loop-pred.invariant (c.pred_fits.ensures.0 c.if-not-pred_fits.false)

pub returns : goal.returns
returns c =
    let q = c.args.procs.now in
    let end : c.len-pred-end.result ≡ length q.program.preds = c.len-pred-end.ensures ∙ ap (λ (x : Program). length x.preds) c.program.ensures in
    let le : length q.program.preds ≤ c.loop-pred.pred = omega (arith, c.loop-pred-test.false, end) in
    all_of_them q c.args.sigs.now c.args.goals.now c.loop-pred.pred c.loop-pred.invariant le
