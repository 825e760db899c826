use Rattle.laws_made_types.proofs.Taking.{constructors_take, constructors_are_taken}
use Rattle.laws_made_types.proofs.laws.constructors_take.Goals as goal

pub returns-clause-takes : goal.returns-clause-takes
returns-clause-takes c = constructors_take

pub returns-clause-taken : goal.returns-clause-taken
returns-clause-taken c = constructors_are_taken
