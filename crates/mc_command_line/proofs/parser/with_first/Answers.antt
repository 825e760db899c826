use Rattle.std.proofs.Common.{◌≡◌, ◌∙◌, sym, ap, rules, true}
use Rattle.std.proofs.lemmas.Result.{IfOk-weaker}
use Rattle.clap.specs.Walk.{Rule, rule_of}
use Rattle.clap.specs.Simple.{app_of, with_rule}
use Rattle.mc_command_line.specs.code.Parser.{first_rule, with_first_rule}
use Rattle.mc_command_line.proofs.Local.{local}
use Rattle.mc_command_line.proofs.parser.with_first.Goals as goal

pub returns : goal.returns
returns c =
    let is : rule_of c.action-first.result ≡ first_rule = search rules in
    let has : c.args.has_first ≡ true = search rules in
    let parser = app_of c.args.parser in
    IfOk-weaker c.arg.result _ _
    (λ command adds. adds.shape (local c.action-first.result (ap (λ (r : Rule). r.is_simple) is)) ∙ ap (with_rule parser) is ∙ ap (λ b. with_first_rule b parser) (sym has))
    c.arg.ensures
