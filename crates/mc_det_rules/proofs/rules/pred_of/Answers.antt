use Rattle.std.proofs.Common.{◌≤◌, ◌<◌, length, arith}
use Rattle.mc_det_rules.proofs.Faulting.{pred_there, pred_nowhere}
use Rattle.mc_det_rules.proofs.rules.pred_of.Goals as goal

pub returns-then-k-count : goal.returns-then-k-count
returns-then-k-count c =
    let q = c.args.procs.now in
    let lt : c.args.k < length q.added = omega (arith, c.if-k-count.true, c.count.ensures) in
    pred_there q.added c.args.k c.get.result.now lt c.get.ensures

pub returns-else-k-count : goal.returns-else-k-count
returns-else-k-count c =
    let q = c.args.procs.now in
    let le : length q.added ≤ c.args.k = omega (arith, c.if-k-count.false, c.count.ensures) in
    pred_nowhere q.added c.args.k le
