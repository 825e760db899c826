use Rattle.laws_modes.proofs.MetTypes.{finitely_many_met}
use Rattle.laws_modes.proofs.regular_laws.finitely_many_met.Goals as goal

pub returns : goal.returns
returns c = finitely_many_met
