use Rattle.laws_modes.proofs.Remaining
use Rattle.laws_modes.proofs.wait_laws.turns_go_on.Goals as goal

pub returns : goal.returns
returns c = λ Op P declared T own first O b y below. Remaining.turns-go-on Op P declared T own first below O b y
