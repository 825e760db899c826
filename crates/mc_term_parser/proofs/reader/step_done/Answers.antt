use Rattle.std.proofs.Common.{◌≡◌, ◌+◌, ◌∷◌, drop, sym, ap, ◌∙◌, subst, arith, IfOk}
use Rattle.mc_term_parser.specs.code.Machine as M
use Rattle.mc_term_parser.specs.code.Seen.{line_seen}
use Rattle.mc_term_parser.specs.code.Views.{state, frames, part, name_next}
use Rattle.mc_term_parser.proofs.Steps.{binary_turn, chain_turn}
use Rattle.mc_term_parser.proofs.reader.step_done.Goals as goal

pub returns-in-Binary : goal.returns-in-Binary
returns-in-Binary c =
    let tokens = c.args.tokens.now in
    let s = c.args.context in
    let n = c.in-Binary.number in
    let p = part c.args.part in
    let fs = frames c.args.parser.stack.items in
    subst (λ u. IfOk c.join_right.result (λ m. state tokens m ≡ u))
    (ap
    (λ limit.
    M.Start s.commas limit
    (M.AtRight (line_seen p.tree.value) (name_next (drop c.args.parser.at tokens)) n limit
    p.tree s.commas s.limit ∷ fs) (drop (c.args.parser.at + 1) tokens)) c.operand-limit.ensures
    ∙ sym
    (binary_turn tokens c.args.parser.at s.commas s.limit p n c.in-Binary.left c.in-Binary.right
    fs _ c.in-Binary.ensures c.if-number-context.true
    (omega (arith, c.if-part-operand.true, c.operand.ensures)) c.if-part-number.true))
    c.join_right.ensures

pub returns-in-Chains : goal.returns-in-Chains
returns-in-Chains c =
    let tokens = c.args.tokens.now in
    let s = c.args.context in
    subst (λ u. IfOk c.join_chain.result (λ m. state tokens m ≡ u))
    (sym
    (chain_turn tokens c.args.parser.at s.commas s.limit (part c.args.part) c.in-Chains.kind
    (frames c.args.parser.stack.items) _ c.in-Chains.ensures
    (omega (arith, c.if-rank-context.true, c.rank.ensures))
    (omega (arith, c.if-part-rank.true, c.rank-then-rank-context.ensures)))) c.join_chain.ensures
