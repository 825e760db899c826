use Rattle.laws_one_answer.proofs.OneWhole.{typed-are-one}
use Rattle.laws_one_answer.proofs.laws.typed_are_one.Goals as goal

pub returns : goal.returns
returns c = typed-are-one
