use Rattle.std.proofs.Common.{drop, sym, ◌∙◌}
use Rattle.mc_term_parser.specs.Infixes as J
use Rattle.mc_term_parser.proofs.Starts.{role_compound, role_negative, role_other}
use Rattle.mc_term_parser.proofs.starting.role.Goals as goal

pub returns-in-OpenCt : goal.returns-in-OpenCt
returns-in-OpenCt c = role_compound c.args.limit c.args.name.now (drop c.args.at c.args.tokens.now) (sym c.mark.ensures ∙ c.in-OpenCt.is)

pub returns-in-Some : goal.returns-in-Some
returns-in-Some c = role_negative c.args.limit c.in-Some.value c.args.name.now (drop c.args.at c.args.tokens.now) (sym c.minus_at.ensures ∙ c.in-Some.is)

pub returns : goal.returns
returns c =
    c.prefix_role.ensures ∙ (λ i. J.prefix_role c.args.limit (c.prefix.ensures i) (c.starts.ensures i))
    ∙ role_other c.args.limit c.args.name.now (drop c.args.at c.args.tokens.now) (λ e. c.in_default.not-OpenCt (c.mark.ensures ∙ e)) (sym c.minus_at.ensures ∙ c.in_default-minus_at.is)
