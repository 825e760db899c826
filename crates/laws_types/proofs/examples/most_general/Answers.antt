use Rattle.laws_types.proofs.General.{lists_of_any, asked_list}
use Rattle.laws_types.proofs.examples.most_general.Goals as goal

pub returns-clause-types : goal.returns-clause-types
returns-clause-types c = lists_of_any

pub returns-clause-query : goal.returns-clause-query
returns-clause-query c = asked_list
