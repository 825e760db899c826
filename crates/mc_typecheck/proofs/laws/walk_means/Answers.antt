use Rattle.mc_typecheck.proofs.Moments as moments
use Rattle.mc_typecheck.proofs.laws.walk_means.Goals as goal

pub returns : goal.returns
returns c = λ P D signatures walk steps vars own are moment picks. moments.walk_means P D signatures walk steps vars own are moment picks
