use Rattle.laws_accepted.proofs.Accepting.{form_is_accepted}
use Rattle.laws_accepted.proofs.acceptance_laws.form_is_accepted.Goals as goal

pub returns : goal.returns
returns c = form_is_accepted
