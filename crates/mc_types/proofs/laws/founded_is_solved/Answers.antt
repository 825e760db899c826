use Rattle.mc_types.proofs.Solutions.{solved}
use Rattle.mc_types.proofs.laws.founded_is_solved.Goals as goal

pub returns : goal.returns
returns c = solved
