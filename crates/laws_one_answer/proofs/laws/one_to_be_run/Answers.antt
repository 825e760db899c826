use Rattle.laws_one_answer.proofs.OneCompiled.{one-to-be-run}
use Rattle.laws_one_answer.proofs.laws.one_to_be_run.Goals as goal

pub returns : goal.returns
returns c = one-to-be-run
