use Rattle.std.proofs.Common.{length, sym, ap, ◌∙◌}
use Rattle.mc_model.specs.Stream.{is_bound}
use Rattle.mc_accepted.specs.Ordered.{zipped, out_mode}
use Rattle.mc_modes.specs.code.Sleeping.{free_beside, free_now}
use Rattle.mc_modes.proofs.FreeInputs.{input-at, zipped-long, zipped-first, number-at}
use Rattle.mc_modes.proofs.inputs.input_is_free.Goals as goal

pub is_free-requires : goal.is_free-requires
is_free-requires c = number-at (length c.args.state.now.insts.items) c.args.xs.now c.loop-k.k 0 c.loop-k-test.true c.requires

pub returns-then-is_free : goal.returns-then-is_free
returns-then-is_free c i =
    let there = c.is_input.ensures c.if-is_input.true in
    let fs = c.args.mode.now.first in
    let ls = c.args.mode.now.last in
    let k = c.loop-k.k in
    input-at (free_beside (free_now c.args.state.now) c.args.others.now) (zipped fs ls) c.args.xs.now k 0 out_mode (zipped-long fs ls k there.0 there.1) c.loop-k-test.true
    (ap is_bound (zipped-first fs ls k out_mode there.0 there.1) ∙ there.2) (sym c.is_free.ensures ∙ c.if-is_free.true)
