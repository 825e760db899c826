use Rattle.mc_program.proofs.Fronts.{front_last}
use Rattle.mc_clauses.proofs.goals.split_last.Goals as goal

pub returns-in-len1-up : goal.returns-in-len1-up
returns-in-len1-up c = front_last c.args.terms.now c.last-item.result c.in-len1-up.len_at_least c.last-item.is
