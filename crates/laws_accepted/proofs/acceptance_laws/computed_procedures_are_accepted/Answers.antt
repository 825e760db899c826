use Rattle.laws_accepted.proofs.Accepting.{computed_are_accepted}
use Rattle.laws_accepted.proofs.acceptance_laws.computed_procedures_are_accepted.Goals as goal

pub returns : goal.returns
returns c = computed_are_accepted
