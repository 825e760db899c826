use Rattle.std.proofs.Common.{[], arith}
use Rattle.mc_typecheck.specs.Ties.{tied}
use Rattle.mc_typecheck.proofs.Properness as properness
use Rattle.mc_typecheck.proofs.laws.walk_is_proper.Goals as goal

pub returns : goal.returns
returns c = λ P D signatures walk steps vars places own are room. properness.all_proper P D places signatures steps (tied P D walk vars []) are (properness.ties_proper P D places vars walk vars [] tt own (omega arith) (omega arith))
