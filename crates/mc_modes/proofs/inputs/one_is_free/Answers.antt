use Rattle.std.proofs.Common.{length, sym, ◌∙◌}
use Rattle.mc_modes.specs.code.Sleeping.{free_beside, free_now}
use Rattle.mc_modes.proofs.FreeInputs.{any-at, number-at}
use Rattle.mc_modes.proofs.inputs.one_is_free.Goals as goal

pub is_free-requires : goal.is_free-requires
is_free-requires c = number-at (length c.args.state.now.insts.items) c.args.xs.now c.loop-x.x-index 0 c.loop-x-test.true c.requires

pub returns-then-is_free : goal.returns-then-is_free
returns-then-is_free c i =
    any-at (free_beside (free_now c.args.state.now) c.args.others.now) c.args.xs.now c.loop-x.x-index 0 c.loop-x-test.true (sym c.is_free.ensures ∙ c.if-is_free.true)
