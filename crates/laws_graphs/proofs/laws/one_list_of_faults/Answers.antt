use Rattle.laws_graphs.proofs.Faults.{one-list-of-faults}
use Rattle.laws_graphs.proofs.laws.one_list_of_faults.Goals as goal

pub returns : goal.returns
returns c = one-list-of-faults
