use Rattle.laws_made_types.proofs.KnownPicks.{picks_are_known}
use Rattle.laws_made_types.proofs.laws.picks_are_known.Goals as goal

pub returns : goal.returns
returns c = picks_are_known
