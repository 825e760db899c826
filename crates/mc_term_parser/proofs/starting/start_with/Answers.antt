use Rattle.std.proofs.Common.{rules}
use Rattle.mc_term_parser.proofs.Leading.{at_once, ok_at_once}
use Rattle.mc_term_parser.proofs.starting.start_with.Goals as goal

pub returns-in-Var : goal.returns-in-Var
returns-in-Var c = ok_at_once c.args.tokens.now _ c.start_var.result (search rules)

pub returns-in-Int : goal.returns-in-Int
returns-in-Int c = at_once c.args.tokens.now _ c.done.result (search rules)

pub returns-in-Str : goal.returns-in-Str
returns-in-Str c = ok_at_once c.args.tokens.now _ c.start_str.result (search rules)

pub returns-in_default : goal.returns-in_default
returns-in_default c = at_once c.args.tokens.now _ c.refused.result (search rules)

pub returns-in-Open : goal.returns-in-Open
returns-in-Open c = ok_at_once c.args.tokens.now _ c.start_paren.result (search rules)

pub returns-in-OpenCt : goal.returns-in-OpenCt
returns-in-OpenCt c = ok_at_once c.args.tokens.now _ c.start_paren-in-OpenCt.result (search rules)

pub returns-in-ListOpen : goal.returns-in-ListOpen
returns-in-ListOpen c = ok_at_once c.args.tokens.now _ c.start_list.result (search rules)
