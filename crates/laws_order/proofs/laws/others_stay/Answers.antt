use Rattle.laws_order.proofs.OthersStay
use Rattle.laws_order.proofs.laws.others_stay.Goals as goal

pub returns-clause-of_nodes : goal.returns-clause-of_nodes
returns-clause-of_nodes c = λ Op P declared T g O n b c gs m zs e. OthersStay.others-stay Op P declared T g O n b c gs m zs e

pub returns-clause-of_forms : goal.returns-clause-of_forms
returns-clause-of_forms c = λ Op P declared T g O n b c gs m zs e. OthersStay.others-stay Op P declared T g O n b c gs m zs e
