use Rattle.laws_sound.proofs.LendExample.{peeks_fit, one_line_is_written}
use Rattle.laws_sound.proofs.examples.peeks.Goals as goal

pub returns-clause-fits : goal.returns-clause-fits
returns-clause-fits c = peeks_fit

pub returns-clause-writes : goal.returns-clause-writes
returns-clause-writes c = one_line_is_written
