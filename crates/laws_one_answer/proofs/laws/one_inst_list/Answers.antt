use Rattle.laws_one_answer.proofs.OneCompiled.{one-inst-list}
use Rattle.laws_one_answer.proofs.laws.one_inst_list.Goals as goal

pub returns : goal.returns
returns c = one-inst-list
