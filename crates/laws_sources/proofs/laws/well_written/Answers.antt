use Rattle.laws_sources.proofs.Written.{well_written}
use Rattle.laws_sources.proofs.laws.well_written.Goals as goal

pub returns : goal.returns
returns c = well_written
