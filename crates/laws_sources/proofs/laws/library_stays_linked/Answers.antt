use Rattle.laws_sources.proofs.Library.{library_stays_linked}
use Rattle.laws_sources.proofs.laws.library_stays_linked.Goals as goal

pub returns : goal.returns
returns c = library_stays_linked
