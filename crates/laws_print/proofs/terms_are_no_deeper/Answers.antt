use Rattle.laws_print.proofs.Depths.{term_deep}
use Rattle.laws_print.proofs.terms_are_no_deeper.Goals as goal

pub returns : goal.returns
returns c = term_deep
