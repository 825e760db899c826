use Rattle.laws_one_answer.proofs.OneRule.{one-list-of-rules}
use Rattle.laws_one_answer.proofs.laws.one_list_of_rules.Goals as goal

pub returns : goal.returns
returns c = one-list-of-rules c.found_nodes.ensures
