use Rattle.laws_one_answer.proofs.MeantSigs.{meant-sigs-are-one}
use Rattle.laws_one_answer.proofs.laws.written_signatures_are_one.Goals as goal

pub returns : goal.returns
returns c = meant-sigs-are-one c.meant_nodes_mean_one.ensures
