use Rattle.std.proofs.Common.{◌+◌, get_or, drop, sym, ap, ◌∙◌, arith}
use Rattle.mc_tokens.specs.Tokens.{begun}
use Rattle.mc_tokens.proofs.Begun.{at_end, token_is}
use Rattle.mc_tokens.proofs.next.token.Goals as goal

pub returns-then-start-text-clause-value : goal.returns-then-start-text-clause-value
returns-then-start-text-clause-value c = sym (at_end c.args.before c.args.start c.args.text.now c.if-start-text.true)

pub returns-clause-value : goal.returns-clause-value
returns-clause-value c =
    c.begun.ensures.value ∙ ap (begun c.args.before c.args.start (get_or c.args.text.now c.args.start 0) (drop (c.args.start + 1) c.args.text.now)) c.begins.ensures
    ∙ sym (token_is c.args.before c.args.start c.args.text.now (omega arith))
