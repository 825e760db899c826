use Rattle.std.proofs.Common.{◌+◌, ◌-◌, ◌∷◌, drop, ap, ◌∙◌}
use Rattle.mc_term_parser.specs.declared.frame.Series.TheVariants.{Chained}
use Rattle.mc_term_parser.specs.Infixes as J
use Rattle.mc_term_parser.specs.code.Machine as M
use Rattle.mc_term_parser.specs.code.Seen.{seen_then, line_seen}
use Rattle.mc_term_parser.specs.code.Views.{frames, reading}
use Rattle.mc_term_parser.proofs.Steps.{start_past}
use Rattle.mc_term_parser.proofs.reader.join_chain.Goals as goal

pub returns : goal.returns
returns c =
    let tokens = c.args.tokens.now in
    let o = c.args.outer in
    let k = c.args.kind in
    let t = reading c.args.first in
    let fs = frames c.args.parser.stack.items in
    let ts = drop (c.args.parser.at + 1) tokens in
    start_past tokens _ _ c.args.parser _ _ _ c.start.ensures c.in_ok-with.ensures.frames
    c.in_ok-with.ensures.at c.past.ensures
    ∙ (λ i.
    M.Start o.commas (c.rank-limit.ensures i - 1)
    (M.InParts (Chained k) (c.line-line.ensures i) (c.in_ok-parts.ensures i) o.commas o.limit
    ∷ fs) ts)
    ∙ ap
    (λ none.
    M.Start o.commas (J.rank k - 1)
    (M.InParts (Chained k) (line_seen t.value) (seen_then none t) o.commas o.limit ∷ fs) ts)
    c.none.ensures
