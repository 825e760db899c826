use Rattle.mc_self_check.proofs.Constructing.{library_makes_types}
use Rattle.mc_self_check.proofs.laws.has_library.Goals as goal

pub returns : goal.returns
returns c = library_makes_types
