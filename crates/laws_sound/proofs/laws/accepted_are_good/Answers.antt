use Rattle.laws_sound.proofs.Procedures.{soundness, query_soundness}
use Rattle.laws_sound.proofs.laws.accepted_are_good.Goals as goal

pub returns-clause-procedures : goal.returns-clause-procedures
returns-clause-procedures c = soundness c.predicates_carry_over.ensures

pub returns-clause-queries : goal.returns-clause-queries
returns-clause-queries c = query_soundness c.predicates_carry_over.ensures
