use Rattle.laws_accepted.proofs.Accepting.{computed_are_good}
use Rattle.laws_accepted.proofs.acceptance_laws.computed_procedures_are_good.Goals as goal

pub returns : goal.returns
returns c = computed_are_good c.accepted_are_good.ensures.procedures
