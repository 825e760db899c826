use Rattle.laws_types.proofs.KnownCandidates.{candidates_are_known}
use Rattle.laws_types.proofs.whole_laws.candidates_are_known.Goals as goal

pub returns : goal.returns
returns c = candidates_are_known
