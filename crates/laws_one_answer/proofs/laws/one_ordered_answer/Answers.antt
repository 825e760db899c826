use Rattle.laws_one_answer.proofs.OneCompiled.{one-ordered-answer}
use Rattle.laws_one_answer.proofs.laws.one_ordered_answer.Goals as goal

pub returns : goal.returns
returns c = one-ordered-answer c.one_moded_answer.ensures
