use Rattle.laws_accepted.proofs.NoSwitches.{orders_have_no_switch}
use Rattle.laws_accepted.proofs.acceptance_laws.orders_have_no_switch.Goals as goal

pub returns : goal.returns
returns c = orders_have_no_switch
