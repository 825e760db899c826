use Rattle.mc_term_parser.proofs.Unique.{unique}
use Rattle.mc_term_parser.proofs.law.at_most_one_term.Goals as goal

pub returns : goal.returns
returns c = unique
