use Rattle.laws_sound.proofs.BuiltinTypings.{builtins_fit}
use Rattle.laws_sound.proofs.laws.builtins_fit.Goals as goal

pub returns : goal.returns
returns c = builtins_fit
