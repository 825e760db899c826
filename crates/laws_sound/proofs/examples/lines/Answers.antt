use Rattle.laws_sound.proofs.MainExample.{lines_fit, line_is_written}
use Rattle.laws_sound.proofs.examples.lines.Goals as goal

pub returns-clause-fits : goal.returns-clause-fits
returns-clause-fits c = lines_fit

pub returns-clause-writes : goal.returns-clause-writes
returns-clause-writes c = line_is_written
