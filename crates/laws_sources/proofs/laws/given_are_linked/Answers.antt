use Rattle.laws_sources.proofs.Given.{given_are_linked}
use Rattle.laws_sources.proofs.laws.given_are_linked.Goals as goal

pub returns : goal.returns
returns c = given_are_linked
