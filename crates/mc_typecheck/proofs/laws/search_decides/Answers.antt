use Rattle.mc_typecheck.proofs.Deciding as deciding
use Rattle.mc_typecheck.proofs.laws.search_decides.Goals as goal

pub returns : goal.returns
returns c = λ P D signatures clause steps vars limit outcome own are says. deciding.search_decides P D signatures clause steps vars limit own are outcome says
