use Rattle.std.proofs.Common.{length}
use Rattle.mc_modes.specs.code.Sleeping.{kept_beside}
use Rattle.mc_modes.proofs.FreeInputs.{kept-is, number-at, all-more}
use Rattle.mc_modes.proofs.makings.none_is_changed.Goals as goal

pub loop-y-preserved : goal.loop-y-preserved
loop-y-preserved c =
    let s = c.args.state.now in
    let vs = c.args.changed.now in
    let ys = c.args.ys.now in
    let k = c.loop-y.y-index in
    all-more (kept_beside s vs) ys k 0 c.loop-y-test.true
    (kept-is s vs _ c.has.result (number-at (length s.insts.items) ys k 0 c.loop-y-test.true c.requires) c.has.ensures c.if-has.false) c.loop-y.invariant
