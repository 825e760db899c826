use Rattle.laws_print.proofs.Tokens.{name_token, name_says}
use Rattle.laws_print.proofs.quoted_names_read_back.Goals as goal

pub returns : goal.returns
returns c before start bytes rest utf8 n = (name_token before start bytes rest utf8 n, name_says bytes utf8)
