use Rattle.std.proofs.Common.{drop, ap, ◌∙◌}
use Rattle.std.proofs.lemmas.Result.{err_from_is_err_and}
use Rattle.mc_tokens.specs.Tokens.{token}
use Rattle.mc_tokens.proofs.Begun.{from_start, from_fault}
use Rattle.mc_tokens.proofs.Ascii.{token_ascii}
use Rattle.mc_tokens.proofs.next.next_seen.Goals as goal

pub returns-in_err-start-clause-value : goal.returns-in_err-start-clause-value
returns-in_err-start-clause-value c =
    let p = err_from_is_err_and c.from_residual.result c.from_residual.ensures.1 in
    rw (p.1, p.2) (from_fault c.args.text.now c.args.at _ c.args.after _ c.in_err-start.ensures.value)

pub returns-in_err-kind-clause-value : goal.returns-in_err-kind-clause-value
returns-in_err-kind-clause-value c =
    let p = err_from_is_err_and c.from_residual-in_err-kind.result c.from_residual-in_err-kind.ensures.1 in
    rw (p.1, p.2) (c.in_err-kind.ensures.value ∙ ap (λ k. token k c.in_ok-start.start (drop c.in_ok-start.start c.args.text.now)) c.ending_at.ensures ∙ from_start c.args.text.now c.args.at c.in_ok-start.start c.args.after c.in_ok-start.ensures.value)

pub returns-clause-value : goal.returns-clause-value
returns-clause-value c =
    c.in_ok-kind.ensures.value ∙ ap (λ k. token k c.in_ok-start.start (drop c.in_ok-start.start c.args.text.now)) c.ending_at.ensures ∙ from_start c.args.text.now c.args.at c.in_ok-start.start c.args.after c.in_ok-start.ensures.value

pub returns-clause-ascii : goal.returns-clause-ascii
returns-clause-ascii c = token_ascii c.ending_at.result c.in_ok-kind.kind c.in_ok-start.start c.in_ok-kind.end c.args.text.now c.in_ok-start.ensures.within.1 (λ i. (c.type_inv.text i).fits) c.in_ok-kind.ensures.value
