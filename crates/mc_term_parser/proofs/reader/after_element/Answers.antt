use Rattle.std.proofs.Common.{sym, ap, ◌∙◌}
use Rattle.mc_term_parser.specs.declared.frame.Series.TheVariants.{Elements}
use Rattle.mc_term_parser.specs.Part as P
use Rattle.mc_term_parser.specs.code.Machine as M
use Rattle.mc_term_parser.specs.code.Seen.{seen_making}
use Rattle.mc_term_parser.specs.code.Views.{frames, readings}
use Rattle.mc_term_parser.proofs.Steps.{start_past, done_past, list_close_next, bar_next, comma_next}
use Rattle.mc_term_parser.proofs.reader.after_element.Goals as goal

pub returns-in_ok-with-in-Comma : goal.returns-in_ok-with-in-Comma
returns-in_ok-with-in-Comma c =
    let tokens = c.args.tokens.now in
    let o = c.args.outer in
    start_past tokens _ _ c.args.parser _ _ _ c.start.ensures c.in_ok-with-in-Comma.ensures.frames
    c.in_ok-with-in-Comma.ensures.at c.past.ensures
    ∙ ap
    (M.parts seen_making Elements c.args.line (readings c.args.parts) o.commas o.limit
    (frames c.args.parser.stack.items) c.args.commas)
    (sym (comma_next tokens c.args.parser.at (sym c.mark.ensures ∙ c.in-Comma.is)))

pub returns-in_ok-list-in-ListClose : goal.returns-in_ok-list-in-ListClose
returns-in_ok-list-in-ListClose c =
    let tokens = c.args.tokens.now in
    let o = c.args.outer in
    done_past tokens _ o _ c.args.parser _ _ c.done.ensures c.past-in-ListClose.ensures
    (c.closed.ensures ∙ ap P.closed c.in_ok-list-in-ListClose.ensures)
    ∙ ap
    (M.parts seen_making Elements c.args.line (readings c.args.parts) o.commas o.limit
    (frames c.args.parser.stack.items) c.args.commas)
    (sym (list_close_next tokens c.args.parser.at (sym c.mark.ensures ∙ c.in-ListClose.is)))

pub returns-in_ok-with-in-Bar : goal.returns-in_ok-with-in-Bar
returns-in_ok-with-in-Bar c =
    let tokens = c.args.tokens.now in
    let o = c.args.outer in
    start_past tokens _ _ c.args.parser _ _ _ c.start-in-Bar.ensures
    c.in_ok-with-in-Bar.ensures.frames c.in_ok-with-in-Bar.ensures.at c.past-in-Bar.ensures
    ∙ ap
    (M.parts seen_making Elements c.args.line (readings c.args.parts) o.commas o.limit
    (frames c.args.parser.stack.items) c.args.commas)
    (sym (bar_next tokens c.args.parser.at (sym c.mark.ensures ∙ c.in-Bar.is)))
