use Rattle.laws_accepted.proofs.Opened.{openings_open}
use Rattle.laws_accepted.proofs.laws.openings_open.Goals as goal

pub returns : goal.returns
returns c = openings_open
