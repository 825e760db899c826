use Rattle.std.proofs.Common.{ap}
use Rattle.std.proofs.lemmas.List.{drop_all}
use Rattle.mc_term_parser.specs.code.Views.{state}
use Rattle.mc_term_parser.proofs.Leading.{at_once}
use Rattle.mc_term_parser.proofs.starting.start_at.Goals as goal

pub returns-then-parser-tokens : goal.returns-then-parser-tokens
returns-then-parser-tokens c =
    let tokens = c.args.tokens.now in
    at_once tokens _ c.refused.result
    (rw (drop_all c.args.parser.at tokens c.if-parser-tokens.true)
    (ap (state tokens) c.refused.ensures))
