use Rattle.laws_sources.proofs.Numbered.{numbered_clause_good, numbered_goal_good}
use Rattle.laws_sources.proofs.reading_laws.numbered_are_of_values.Goals as goal

pub returns : goal.returns
returns c = λ P t h. (numbered_clause_good P t h, numbered_goal_good P t h)
