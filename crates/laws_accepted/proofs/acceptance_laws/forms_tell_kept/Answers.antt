use Rattle.laws_accepted.proofs.KeptTold.{forms_tell_kept}
use Rattle.laws_accepted.proofs.acceptance_laws.forms_tell_kept.Goals as goal

pub returns : goal.returns
returns c = forms_tell_kept
