use Rattle.laws_one_answer.proofs.WholePrograms.{whole-goals-are-typed}
use Rattle.laws_one_answer.proofs.laws.whole_goals_are_typed.Goals as goal

pub returns : goal.returns
returns c = whole-goals-are-typed
