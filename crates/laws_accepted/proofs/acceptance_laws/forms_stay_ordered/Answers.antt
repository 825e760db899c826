use Rattle.laws_accepted.proofs.FormedGoals.{forms_stay_ordered}
use Rattle.laws_accepted.proofs.acceptance_laws.forms_stay_ordered.Goals as goal

pub returns : goal.returns
returns c = forms_stay_ordered
