use Rattle.laws_one_answer.proofs.OneProgram.{one-comes}
use Rattle.laws_one_answer.proofs.laws.one_comes.Goals as goal

pub returns : goal.returns
returns c = one-comes
