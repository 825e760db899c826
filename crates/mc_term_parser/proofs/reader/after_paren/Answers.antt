use Rattle.std.proofs.Common.{sym, ap, ◌∙◌}
use Rattle.mc_term_parser.specs.Part as P
use Rattle.mc_term_parser.specs.code.Machine as M
use Rattle.mc_term_parser.specs.code.Seen.{seen_making}
use Rattle.mc_term_parser.specs.code.Views.{frames, reading}
use Rattle.mc_term_parser.proofs.Steps.{done_past, close_next}
use Rattle.mc_term_parser.proofs.reader.after_paren.Goals as goal

pub returns-in-Close : goal.returns-in-Close
returns-in-Close c =
    let tokens = c.args.tokens.now in
    let o = c.args.outer in
    done_past tokens _ o _ c.args.parser _ _ c.done.ensures c.past.ensures
    (c.closed.ensures ∙ ap P.closed c.inside.ensures)
    ∙ ap
    (M.after_paren seen_making o.commas o.limit (frames c.args.parser.stack.items) c.args.line
    (reading c.args.inside))
    (sym (close_next tokens c.args.parser.at (sym c.mark.ensures ∙ c.in-Close.is)))
