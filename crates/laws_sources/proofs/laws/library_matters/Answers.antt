use Rattle.laws_sources.proofs.Matters.{library_matters}
use Rattle.laws_sources.proofs.laws.library_matters.Goals as goal

pub returns : goal.returns
returns c = library_matters
