use Rattle.laws_order.proofs.NamedByFaults.{named-by-faults}
use Rattle.laws_order.proofs.laws.named_by_faults.Goals as goal

pub returns : goal.returns
returns c = named-by-faults
