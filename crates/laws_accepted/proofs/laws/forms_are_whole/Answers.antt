use Rattle.laws_accepted.proofs.Enough.{forms_are_whole}
use Rattle.laws_accepted.proofs.laws.forms_are_whole.Goals as goal

pub returns : goal.returns
returns c = forms_are_whole
