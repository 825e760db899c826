use Rattle.mc_components.proofs.Reaching.{reached_by_ways}
use Rattle.mc_components.proofs.law.reached_by_ways.Goals as goal

pub returns : goal.returns
returns c = reached_by_ways
