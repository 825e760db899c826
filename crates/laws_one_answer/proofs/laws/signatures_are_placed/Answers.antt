use Rattle.laws_one_answer.proofs.WholePrograms.{signatures-are-placed}
use Rattle.laws_one_answer.proofs.laws.signatures_are_placed.Goals as goal

pub returns : goal.returns
returns c = signatures-are-placed
