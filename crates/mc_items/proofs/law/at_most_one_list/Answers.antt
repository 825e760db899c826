use Rattle.mc_items.proofs.Unique.{one_list}
use Rattle.mc_items.proofs.law.at_most_one_list.Goals as goal

pub returns : goal.returns
returns c = one_list c.at_most_one_term.ensures
