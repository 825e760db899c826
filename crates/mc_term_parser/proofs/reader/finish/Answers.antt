use Rattle.std.proofs.Common.{sym, ap, ◌∙◌}
use Rattle.mc_term_parser.specs.code.Views.{state}
use Rattle.mc_term_parser.proofs.Steps.{finish_no}
use Rattle.mc_term_parser.proofs.reader.finish.Goals as goal

pub returns-then-parser-tokens : goal.returns-then-parser-tokens
returns-then-parser-tokens c =
    ap (state c.args.tokens.now) c.refused.ensures ∙ sym
    (finish_no c.args.tokens.now c.args.parser.at _ c.if-parser-tokens.true)
