use Rattle.laws_accepted.proofs.FormEnds.{forms_end_alike}
use Rattle.laws_accepted.proofs.acceptance_laws.forms_end_alike.Goals as goal

pub returns : goal.returns
returns c = forms_end_alike
