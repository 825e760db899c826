use Rattle.laws_print.proofs.Tokens.{number_token}
use Rattle.laws_print.proofs.numbers_read_back.Goals as goal

pub returns : goal.returns
returns c = number_token
