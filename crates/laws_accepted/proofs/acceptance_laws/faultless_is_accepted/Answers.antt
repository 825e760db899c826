use Rattle.laws_accepted.proofs.Accepting.{faultless_is_accepted}
use Rattle.laws_accepted.proofs.acceptance_laws.faultless_is_accepted.Goals as goal

pub returns : goal.returns
returns c = faultless_is_accepted
