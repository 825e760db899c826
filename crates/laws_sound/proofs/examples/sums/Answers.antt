use Rattle.laws_sound.proofs.SumsExample.{sums_fit}
use Rattle.laws_sound.proofs.examples.sums.Goals as goal

pub returns : goal.returns
returns c = sums_fit
