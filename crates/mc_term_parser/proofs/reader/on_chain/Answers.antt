use Rattle.std.proofs.Common.{◌+◌, ◌-◌, ◌∷◌, drop, sym, ap, ◌∙◌}
use Rattle.mc_term_parser.specs.declared.frame.Series.TheVariants.{Chained}
use Rattle.mc_term_parser.specs.code.Machine as M
use Rattle.mc_term_parser.specs.code.Views.{frames, readings}
use Rattle.mc_term_parser.proofs.Steps.{start_past, chain_goes}
use Rattle.mc_term_parser.proofs.reader.on_chain.Goals as goal

pub returns-then-goes_on : goal.returns-then-goes_on
returns-then-goes_on c =
    let tokens = c.args.tokens.now in
    let o = c.args.outer in
    let fs = frames c.args.parser.stack.items in
    let k = c.args.kind in
    start_past tokens _ _ c.args.parser _ _ _ c.start.ensures c.in_ok-with.ensures.frames
    c.in_ok-with.ensures.at c.past.ensures
    ∙ ap
    (λ n.
    M.Start c.args.commas (n - 1)
    (M.InParts (Chained k) c.args.line (readings c.args.parts) o.commas o.limit ∷ fs)
    (drop (c.args.parser.at + 1) tokens)) c.rank-number.ensures
    ∙ sym
    (chain_goes k c.args.line (readings c.args.parts) o.commas o.limit fs c.args.commas tokens
    c.args.parser.at _ c.infix_at.ensures (sym c.goes_on.ensures ∙ c.if-goes_on.true))
