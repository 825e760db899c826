use Rattle.laws_one_answer.proofs.ModesMeanOne.{modes-mean-one}
use Rattle.laws_one_answer.proofs.laws.modes_mean_one.Goals as goal

pub returns : goal.returns
returns c = modes-mean-one
