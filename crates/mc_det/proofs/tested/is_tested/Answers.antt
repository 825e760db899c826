use Rattle.std.proofs.Common.{◌≡◌, false, get_or, arith}
use Rattle.std.proofs.lemmas.Grind.{common_steps}
use Rattle.mc_model.specs.Stream.{is_bound}
use Rattle.mc_det.specs.code.Points.{insts_in}
use Rattle.mc_det.proofs.Tests.{there, passed}
use Rattle.mc_det.proofs.tested.is_tested.Goals as goal

pub loop-n-preserved : goal.loop-n-preserved
loop-n-preserved c =
    let e : false ≡ there (λ y. is_bound (insts_in c.args.point.now y)) c.args.args.now c.loop-n.n (get_or c.args.args.now c.loop-n.n 0) = grind (arith, common_steps, c.if-is_there.ensures) in
    passed (λ y. is_bound (insts_in c.args.point.now y)) c.args.args.now c.loop-n.n 0 c.loop-n-test.true c.loop-n.invariant e
