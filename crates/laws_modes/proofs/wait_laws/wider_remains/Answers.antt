use Rattle.mc_accepted.specs.Arranged.{trial}
use Rattle.laws_modes.proofs.Remaining
use Rattle.laws_modes.proofs.wait_laws.wider_remains.Goals as goal

pub returns : goal.returns
returns c = λ Op P declared T own first O b y below fewer g z a w r. Remaining.wider-remains Op own fewer first (trial Op P declared T g) O b y z a w r
