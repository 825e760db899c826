use Rattle.mc_accepted.specs.Arranged.{trial}
use Rattle.laws_modes.proofs.Remaining
use Rattle.laws_modes.proofs.wait_laws.later_remains.Goals as goal

pub returns : goal.returns
returns c = λ Op P declared T own first O b y below g U c s h r. Remaining.later-remains Op own first (trial Op P declared T g) O U b c y s h r
