use Rattle.laws_accepted.proofs.Accepting.{in_order_is_accepted}
use Rattle.laws_accepted.proofs.acceptance_laws.in_order_is_accepted.Goals as goal

pub returns : goal.returns
returns c = in_order_is_accepted
