use Rattle.laws_modes.proofs.Remaining
use Rattle.laws_modes.proofs.wait_laws.unchanged_remains.Goals as goal

pub returns : goal.returns
returns c = λ Op P declared T own first O b y below. Remaining.unchanged-remains Op P declared T own first below O b y
