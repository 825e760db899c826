use Rattle.mc_items.proofs.Unique.{not_both, one_broken}
use Rattle.mc_items.proofs.law.at_most_one_answer.Goals as goal

pub returns-clause-not_both : goal.returns-clause-not_both
returns-clause-not_both c = not_both c.at_most_one_list.ensures

pub returns-clause-one_refusal : goal.returns-clause-one_refusal
returns-clause-one_refusal c = one_broken c.at_most_one_list.ensures
