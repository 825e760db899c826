use Rattle.laws_accepted.proofs.FormVariables.{forms_keep_variables}
use Rattle.laws_accepted.proofs.acceptance_laws.forms_keep_variables.Goals as goal

pub returns : goal.returns
returns c = forms_keep_variables
