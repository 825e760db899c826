use Rattle.std.proofs.Common.{◌≡◌, ◌∙◌, sym, ap, ap₂, codes, rules, true}
use Rattle.std.proofs.lemmas.Result.{IfOk-weaker}
use Rattle.clap.specs.Walk.{Rule, rule_of}
use Rattle.clap.specs.Simple.{app_of, with_rule}
use Rattle.mc_command_line.specs.code.Parser.{limit_rule, with_limit_rules}
use Rattle.mc_command_line.proofs.Local.{local}
use Rattle.mc_command_line.proofs.parser.with_limits.Goals as goal

pub returns : goal.returns
returns c =
    let budget : rule_of c.limit.result ≡ limit_rule (codes "budget") = c.limit.ensures in
    let depth : rule_of c.limit-2.result ≡ limit_rule (codes "depth") = c.limit-2.ensures in
    let has : c.args.has_bounds ≡ true = search rules in
    let parser = app_of c.args.parser in
    let with_budget = c.in_ok-parser.ensures.shape (local c.limit.result (ap (λ (r : Rule). r.is_simple) budget)) ∙ ap (with_rule parser) budget in
    IfOk-weaker c.arg-2.result _ _
    (λ command adds. adds.shape (local c.limit-2.result (ap (λ (r : Rule). r.is_simple) depth)) ∙ ap₂ with_rule with_budget depth ∙ ap (λ b. with_limit_rules b parser) (sym has))
    c.arg-2.ensures
