use Rattle.laws_one_answer.proofs.SigsAreOne.{sigs-are-themselves}
use Rattle.laws_one_answer.proofs.laws.signatures_are_themselves.Goals as goal

pub returns : goal.returns
returns c = sigs-are-themselves c.defined_insts_mean_one.ensures
