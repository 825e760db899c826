use Rattle.std.proofs.Common.{refl}
use Rattle.laws_print.proofs.Tokens.{bare_token}
use Rattle.laws_print.proofs.bare_names_read_back.Goals as goal

pub returns : goal.returns
returns c before start name rest bare free ends = (bare_token before start name rest bare free ends, refl)
