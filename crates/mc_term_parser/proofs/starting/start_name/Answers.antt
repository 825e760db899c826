use Rattle.std.proofs.Common.{rules}
use Rattle.mc_term_parser.proofs.Leading.{at_once}
use Rattle.mc_term_parser.proofs.starting.start_name.Goals as goal

pub returns-in-Negative : goal.returns-in-Negative
returns-in-Negative c = at_once c.args.tokens.now _ c.start_negative.result (search rules)

pub returns-in_ok-with-in-Single : goal.returns-in_ok-with-in-Single
returns-in_ok-with-in-Single c = at_once c.args.tokens.now _ c.start.result (search rules)

pub returns-in_ok-with-in-Double : goal.returns-in_ok-with-in-Double
returns-in_ok-with-in-Double c = at_once c.args.tokens.now _ c.start-in-Double.result (search rules)

pub returns-in-Plain : goal.returns-in-Plain
returns-in-Plain c = at_once c.args.tokens.now _ c.done.result (search rules)
