use Rattle.laws_print.proofs.Tokens.{string_token, string_says}
use Rattle.laws_print.proofs.strings_read_back.Goals as goal

pub returns : goal.returns
returns c before start bytes rest utf8 n = (string_token before start bytes rest utf8 n, string_says bytes utf8)
