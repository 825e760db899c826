use Rattle.mc_cmd.proofs.Once.{one_answer}
use Rattle.mc_cmd.proofs.law.at_most_one_answer.Goals as goal

pub returns : goal.returns
returns c = one_answer c.compiled_are_one.ensures c.one_to_be_run.ensures
