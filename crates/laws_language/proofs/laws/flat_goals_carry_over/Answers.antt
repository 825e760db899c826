use Rattle.laws_language.proofs.FlatWhole.{flat_goals_carry}
use Rattle.laws_language.proofs.laws.flat_goals_carry_over.Goals as goal

pub returns : goal.returns
returns c = flat_goals_carry
