use Rattle.laws_modes.proofs.Alike.{alike}
use Rattle.laws_modes.proofs.wait_laws.goals_alike.Goals as goal

pub returns-clause-of_nodes : goal.returns-clause-of_nodes
returns-clause-of_nodes c Op P declared T own first g below within = alike Op P declared T own first below g within

pub returns-clause-of_forms : goal.returns-clause-of_forms
returns-clause-of_forms c Op P declared T own first g below within = alike Op P declared T own first below g within
