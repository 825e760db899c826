use Rattle.mc_mode_state.proofs.Numbers.{first-enough}
use Rattle.mc_mode_state.proofs.state.State.leave.Goals as goal

pub overflow_sub-index_mut : goal.overflow_sub-index_mut
overflow_sub-index_mut c =
    first-enough c.loop-x.self.outside.items c.args.vars.now c.loop-x.x-index c.index_mut.result.now c.loop-x-test.true c.loop-x.invariant.below c.loop-x.invariant.enough c.index_mut.ensures.value
