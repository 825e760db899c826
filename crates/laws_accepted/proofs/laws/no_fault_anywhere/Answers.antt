use Rattle.laws_accepted.proofs.NoFaults.{no_fault_anywhere}
use Rattle.laws_accepted.proofs.laws.no_fault_anywhere.Goals as goal

pub returns : goal.returns
returns c = no_fault_anywhere
