use Rattle.laws_order.proofs.Tidying.{entries-are-tidy}
use Rattle.laws_order.proofs.laws.entries_are_tidy.Goals as goal

pub returns : goal.returns
returns c = entries-are-tidy
