use Rattle.std.proofs.Common.{ap}
use Rattle.mc_state_variables.proofs.clause.numbered_goal.Goals as goal

pub returns : goal.returns
returns c = ap (λ w. w.text) (c.in_ok-text.ensures {u = tt})
