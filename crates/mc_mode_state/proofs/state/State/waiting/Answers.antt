use Rattle.std.proofs.Common.{ap}
use Rattle.mc_accepted.specs.Arranged.{waits}
use Rattle.mc_mode_state.proofs.state.State.waiting.Goals as goal

pub returns-in-Ok : goal.returns-in-Ok
returns-in-Ok c = ap (waits 1) c.in-Ok.ensures
