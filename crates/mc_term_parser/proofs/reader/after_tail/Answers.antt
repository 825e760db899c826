use Rattle.std.proofs.Common.{sym, ap, ◌∙◌}
use Rattle.mc_term_parser.specs.Part as P
use Rattle.mc_term_parser.specs.code.Machine as M
use Rattle.mc_term_parser.specs.code.Seen.{seen_making}
use Rattle.mc_term_parser.specs.code.Views.{frames, reading, readings}
use Rattle.mc_term_parser.proofs.Steps.{done_past, list_close_next}
use Rattle.mc_term_parser.proofs.reader.after_tail.Goals as goal

pub returns-in_ok-list-in-ListClose : goal.returns-in_ok-list-in-ListClose
returns-in_ok-list-in-ListClose c =
    let tokens = c.args.tokens.now in
    let o = c.args.outer in
    done_past tokens _ o _ c.args.parser _ _ c.done.ensures c.past.ensures
    (c.closed.ensures ∙ ap P.closed c.in_ok-list-in-ListClose.ensures)
    ∙ ap
    (M.after_tail seen_making o.commas o.limit (frames c.args.parser.stack.items) c.args.line
    (readings c.args.items) (reading c.args.tail))
    (sym (list_close_next tokens c.args.parser.at (sym c.mark.ensures ∙ c.in-ListClose.is)))
