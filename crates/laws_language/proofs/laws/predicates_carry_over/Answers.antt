use Rattle.laws_language.proofs.PredicateGoals.{predicates_carry}
use Rattle.laws_language.proofs.laws.predicates_carry_over.Goals as goal

pub returns : goal.returns
returns c = predicates_carry
