use Rattle.std.proofs.Common.{sym, ◌∙◌}
use Rattle.mc_term_parser.specs.code.Views.{frames, reading}
use Rattle.mc_term_parser.proofs.Steps.{start_at, first_goes}
use Rattle.mc_term_parser.proofs.reader.at_first.Goals as goal

pub returns-in-Nothing : goal.returns-in-Nothing
returns-in-Nothing c =
    let tokens = c.args.tokens.now in
    let o = c.args.outer in
    start_at tokens _ _ _ _ _ c.start.ensures c.in_ok-with.ensures.frames c.in_ok-with.ensures.at
    ∙ sym
    (first_goes tokens c.args.parser.at c.args.commas c.args.operator.number
    c.args.operator.line (reading c.args.first) c.args.operator.name o.commas o.limit
    (frames c.args.parser.stack.items) c.if-parser-tokens.true c.in-Nothing.ensures)
