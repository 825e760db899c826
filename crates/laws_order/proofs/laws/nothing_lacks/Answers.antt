use Rattle.laws_order.proofs.NothingLacks.{nothing-lacks}
use Rattle.laws_order.proofs.laws.nothing_lacks.Goals as goal

pub returns : goal.returns
returns c = nothing-lacks
