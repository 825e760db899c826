use Rattle.laws_accepted.proofs.Retelling.{changed_is_retold}
use Rattle.laws_accepted.proofs.acceptance_laws.changed_is_retold.Goals as goal

pub returns : goal.returns
returns c = changed_is_retold
