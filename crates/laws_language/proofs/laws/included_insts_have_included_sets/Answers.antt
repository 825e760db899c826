use Rattle.laws_language.proofs.Inclusions.{included_sets}
use Rattle.laws_language.proofs.laws.included_insts_have_included_sets.Goals as goal

pub returns : goal.returns
returns c = included_sets
