use Rattle.std.proofs.Common.{sym, ap, ◌∙◌}
use Rattle.mc_term_parser.specs.Part as P
use Rattle.mc_term_parser.specs.code.Machine as M
use Rattle.mc_term_parser.specs.code.Seen.{seen_making, seen_items}
use Rattle.mc_term_parser.specs.code.Views.{frames}
use Rattle.mc_term_parser.proofs.Steps.{done_past, list_close_next}
use Rattle.mc_term_parser.proofs.starting.start_list.Goals as goal

pub returns-in-ListClose : goal.returns-in-ListClose
returns-in-ListClose c =
    let s = c.args.context in
    let tokens = c.args.tokens.now in
    done_past tokens _ s _ c.args.parser _ _ c.done.ensures c.past.ensures
    (c.closed.ensures ∙ ap P.closed
    (c.in_ok-list.ensures ∙ ap (seen_items c.args.line) c.none-none.ensures))
    ∙ ap (M.on_list seen_making s.commas s.limit (frames c.args.parser.stack.items) c.args.line)
    (sym (list_close_next tokens c.args.parser.at (sym c.mark.ensures ∙ c.in-ListClose.is)))
