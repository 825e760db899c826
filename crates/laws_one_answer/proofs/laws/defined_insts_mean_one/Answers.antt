use Rattle.laws_one_answer.proofs.ModesMeanOne.{defined-mean-one}
use Rattle.laws_one_answer.proofs.laws.defined_insts_mean_one.Goals as goal

pub returns : goal.returns
returns c = defined-mean-one
