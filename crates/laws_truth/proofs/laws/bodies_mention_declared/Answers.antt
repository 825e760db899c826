use Rattle.laws_truth.proofs.Mentioned.{ordered_mention_declared, bodies_mention_declared}
use Rattle.laws_truth.proofs.laws.bodies_mention_declared.Goals as goal

pub returns-clause-goals : goal.returns-clause-goals
returns-clause-goals c = ordered_mention_declared

pub returns-clause-bodies : goal.returns-clause-bodies
returns-clause-bodies c = bodies_mention_declared
