use Rattle.laws_one_answer.proofs.OneCompiled.{well-linked-are-typed}
use Rattle.laws_one_answer.proofs.laws.well_linked_are_typed.Goals as goal

pub returns : goal.returns
returns c = well-linked-are-typed c.whole_goals_are_typed.ensures
