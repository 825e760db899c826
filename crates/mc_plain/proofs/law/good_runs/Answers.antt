use Rattle.mc_plain.proofs.Beginning.{gives_fine, each_fine}
use Rattle.mc_plain.proofs.Waiting.{fed_fine}
use Rattle.mc_plain.proofs.law.good_runs.Goals as goal

pub returns-clause-stay : goal.returns-clause-stay
returns-clause-stay c = gives_fine

pub returns-clause-fed : goal.returns-clause-fed
returns-clause-fed c = fed_fine

pub returns-clause-are : goal.returns-clause-are
returns-clause-are c = each_fine
