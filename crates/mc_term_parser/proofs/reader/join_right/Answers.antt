use Rattle.std.proofs.Common.{◌+◌, ◌∷◌, drop, ap, ◌∙◌}
use Rattle.mc_term_parser.specs.code.Machine as M
use Rattle.mc_term_parser.specs.code.Views.{frames}
use Rattle.mc_term_parser.proofs.Steps.{start_past}
use Rattle.mc_term_parser.proofs.reader.join_right.Goals as goal

pub returns : goal.returns
returns c =
    let tokens = c.args.tokens.now in
    start_past tokens _ _ c.args.parser _ _ _ c.start.ensures c.in_ok-with.ensures.frames
    c.in_ok-with.ensures.at c.past.ensures
    ∙ ap
    (λ f.
    M.Start c.args.outer.commas c.args.limit (f ∷ frames c.args.parser.stack.items)
    (drop (c.args.parser.at + 1) tokens)) c.in_ok-frame.ensures
