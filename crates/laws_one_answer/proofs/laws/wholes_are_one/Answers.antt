use Rattle.laws_one_answer.proofs.OneWhole.{wholes-are-one}
use Rattle.laws_one_answer.proofs.laws.wholes_are_one.Goals as goal

pub returns : goal.returns
returns c = wholes-are-one c.typed_are_one.ensures
