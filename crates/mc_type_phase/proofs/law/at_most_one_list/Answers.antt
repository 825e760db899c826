use Rattle.mc_type_phase.proofs.Once.{one_list}
use Rattle.mc_type_phase.proofs.law.at_most_one_list.Goals as goal

pub returns : goal.returns
returns c l seen items bs cs f g = one_list l seen items bs cs f g
