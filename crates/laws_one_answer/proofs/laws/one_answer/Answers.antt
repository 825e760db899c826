use Rattle.laws_one_answer.proofs.TwoWays.{one-answer}
use Rattle.laws_one_answer.proofs.laws.one_answer.Goals as goal

pub returns : goal.returns
returns c = one-answer c.found_nodes.ensures c.one_list_of_rules.ensures
