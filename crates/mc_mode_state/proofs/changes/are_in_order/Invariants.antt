use Rattle.mc_mode_state.proofs.InOrder.{InOrderBelow}
use Rattle.mc_mode_state.proofs.changes.are_in_order.Given as goal

abbrev pub invariant-loop-e : goal.invariant-loop-e
invariant-loop-e l = InOrderBelow l.last l.e-index l.replaced
