use Rattle.laws_truth.proofs.ProgramTruth.{executables_are_true}
use Rattle.laws_truth.proofs.program_laws.executables_are_true.Goals as goal

pub returns : goal.returns
returns c = executables_are_true c.truth_of_rules.ensures
