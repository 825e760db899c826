use Rattle.laws_accepted.proofs.Faultless.{faultless_meets}
use Rattle.laws_accepted.proofs.Placing.{misplaced_tells, misplaces_io_tells}
use Rattle.laws_accepted.proofs.laws.faults_tell.Goals as goal

pub returns-clause-calls : goal.returns-clause-calls
returns-clause-calls c = misplaced_tells

pub returns-clause-io : goal.returns-clause-io
returns-clause-io c = misplaces_io_tells

pub returns-clause-none : goal.returns-clause-none
returns-clause-none c = faultless_meets
