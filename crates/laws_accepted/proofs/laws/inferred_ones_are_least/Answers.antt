use Rattle.laws_accepted.proofs.Inferring.{allows_tells, faults_are_one, join_is_least, least_is_one}
use Rattle.laws_accepted.proofs.laws.inferred_ones_are_least.Goals as goal

pub returns-clause-allows : goal.returns-clause-allows
returns-clause-allows c = allows_tells

pub returns-clause-join : goal.returns-clause-join
returns-clause-join c = join_is_least

pub returns-clause-one : goal.returns-clause-one
returns-clause-one c = least_is_one

pub returns-clause-faults : goal.returns-clause-faults
returns-clause-faults c = faults_are_one
