use Rattle.std.proofs.Common.{sym, ap, ◌∙◌}
use Rattle.mc_term_parser.specs.Part as P
use Rattle.mc_term_parser.specs.code.Views.{frames}
use Rattle.mc_term_parser.proofs.Steps.{done_past}
use Rattle.mc_term_parser.proofs.Starts.{negative_on}
use Rattle.mc_term_parser.proofs.starting.start_negative.Goals as goal

pub returns : goal.returns
returns c =
    let s = c.args.context in
    done_past c.args.tokens.now _ s _ c.args.parser _ _ c.done.ensures c.past.ensures
    (c.closed.ensures ∙ ap P.closed c.neg-number.ensures)
    ∙ sym
    (negative_on c.args.tokens.now c.args.parser.at s.commas s.limit
    (frames c.args.parser.stack.items) c.args.line c.args.value c.if-parser-tokens.false)
