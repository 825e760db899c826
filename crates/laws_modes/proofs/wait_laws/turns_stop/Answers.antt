use Rattle.laws_modes.proofs.Remaining
use Rattle.laws_modes.proofs.wait_laws.turns_stop.Goals as goal

pub returns : goal.returns
returns c = λ Op P declared T own first O b y below. Remaining.turns-stop Op P declared T own first below O b y
