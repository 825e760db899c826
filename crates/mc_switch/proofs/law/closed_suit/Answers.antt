use Rattle.mc_switch.proofs.Suiting.{closed_suit}
use Rattle.mc_switch.proofs.law.closed_suit.Goals as goal

pub returns : goal.returns
returns c = closed_suit
