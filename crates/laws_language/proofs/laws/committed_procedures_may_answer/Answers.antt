use Rattle.laws_language.proofs.Switches.{committed_may_answer}
use Rattle.laws_language.proofs.laws.committed_procedures_may_answer.Goals as goal

pub returns : goal.returns
returns c = committed_may_answer
