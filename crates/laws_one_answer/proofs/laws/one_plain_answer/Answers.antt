use Rattle.laws_one_answer.proofs.PlainAnswer.{one-plain-answer}
use Rattle.laws_one_answer.proofs.laws.one_plain_answer.Goals as goal

pub returns : goal.returns
returns c = one-plain-answer c.one_comes.ensures c.one_answer.ensures
