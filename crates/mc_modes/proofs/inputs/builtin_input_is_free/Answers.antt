use Rattle.std.proofs.Common.{length, sym, ◌∙◌, ◌<◌, arith}
use Rattle.mc_accepted.specs.Ordered.{modes_of, out_mode}
use Rattle.mc_modes.specs.code.Sleeping.{free_beside, free_now}
use Rattle.mc_modes.proofs.FreeInputs.{input-at, number-at}
use Rattle.mc_modes.proofs.inputs.builtin_input_is_free.Goals as goal

pub is_free-requires : goal.is_free-requires
is_free-requires c = number-at (length c.args.state.now.insts.items) c.args.xs.now c.loop-k.k 0 c.if-k-xs.true c.requires

pub returns-then-is_free : goal.returns-then-is_free
returns-then-is_free c i =
    let k = c.loop-k.k in
    let within : k < length (modes_of c.args.op) = omega (arith, c.loop-k-test.true, c.builtin_inputs-inputs.ensures.within) in
    input-at (free_beside (free_now c.args.state.now) c.args.others.now) (modes_of c.args.op) c.args.xs.now k 0 out_mode within c.if-k-xs.true
    (c.builtin_inputs-inputs.ensures.inputs k c.loop-k.auto.k c.loop-k-test.true) (sym c.is_free.ensures ∙ c.if-is_free.true)
