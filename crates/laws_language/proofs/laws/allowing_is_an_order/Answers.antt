use Rattle.laws_language.proofs.Monotone.{allows_itself, allows_in_turn, allows_one_way}
use Rattle.laws_language.proofs.laws.allowing_is_an_order.Goals as goal

pub returns-clause-itself : goal.returns-clause-itself
returns-clause-itself c = allows_itself

pub returns-clause-in_turn : goal.returns-clause-in_turn
returns-clause-in_turn c = allows_in_turn

pub returns-clause-one_way : goal.returns-clause-one_way
returns-clause-one_way c = allows_one_way
