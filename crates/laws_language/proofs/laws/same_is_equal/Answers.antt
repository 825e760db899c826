use Rattle.laws_language.proofs.Equality.{same_is_equal}
use Rattle.laws_language.proofs.laws.same_is_equal.Goals as goal

pub returns : goal.returns
returns c = same_is_equal
