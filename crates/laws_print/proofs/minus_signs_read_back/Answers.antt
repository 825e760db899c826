use Rattle.laws_print.proofs.Tokens.{minus_token}
use Rattle.laws_print.proofs.minus_signs_read_back.Goals as goal

pub returns : goal.returns
returns c = minus_token
