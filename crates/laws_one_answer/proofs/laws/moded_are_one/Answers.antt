use Rattle.laws_one_answer.proofs.OneModed.{moded-are-one}
use Rattle.laws_one_answer.proofs.laws.moded_are_one.Goals as goal

pub returns : goal.returns
returns c = moded-are-one c.wholes_are_one.ensures c.written_signatures_are_one.ensures c.signatures_are_placed.ensures
