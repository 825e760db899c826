use Rattle.laws_language.proofs.AcceptedAppend.{append_is_accepted}
use Rattle.laws_language.proofs.examples.accepted_procedures.Goals as goal

pub returns : goal.returns
returns c = append_is_accepted
