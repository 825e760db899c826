use Rattle.laws_accepted.proofs.Telling.{told_stays_ordered}
use Rattle.laws_accepted.proofs.acceptance_laws.told_stays_ordered.Goals as goal

pub returns : goal.returns
returns c = told_stays_ordered
