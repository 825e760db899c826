use Rattle.laws_one_answer.proofs.OneModed.{one-moded-answer}
use Rattle.laws_one_answer.proofs.laws.one_moded_answer.Goals as goal

pub returns : goal.returns
returns c = one-moded-answer c.moded_are_one.ensures c.one_plain_answer.ensures
