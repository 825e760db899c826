use Rattle.laws_procedures.proofs.GroupMerges.{forms_merge}
use Rattle.laws_procedures.proofs.laws.forms_merge.Goals as goal

pub returns : goal.returns
returns c = forms_merge
