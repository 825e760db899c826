use Rattle.mc_term_parser.proofs.Depths.{no_deeper}
use Rattle.mc_term_parser.proofs.law.terms_are_no_deeper.Goals as goal

pub returns : goal.returns
returns c = no_deeper
