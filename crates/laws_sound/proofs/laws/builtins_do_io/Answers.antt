use Rattle.laws_sound.proofs.BuiltinIo.{builtins_do_io}
use Rattle.laws_sound.proofs.laws.builtins_do_io.Goals as goal

pub returns : goal.returns
returns c = builtins_do_io
