use Rattle.std.proofs.Common.{◌≡◌, ◌∙◌, ap, ap₂, rules}
use Rattle.std.proofs.lemmas.Result.{IfOk-weaker}
use Rattle.clap.specs.Walk.{Rule, rule_of}
use Rattle.clap.specs.Simple.{with_rule}
use Rattle.mc_command_line.specs.code.Parser.{with_first_rule, with_limit_rules, words_rule}
use Rattle.mc_command_line.proofs.Local.{local}
use Rattle.mc_command_line.proofs.parser.parser.Goals as goal

pub returns : goal.returns
returns c =
    let words : rule_of c.action-words.result ≡ words_rule = search rules in
    let first = c.in_ok-parser.ensures ∙ ap (with_first_rule c.args.options.first) c.no_arguments.ensures in
    let limits = c.in_ok-parser-2.ensures ∙ ap (with_limit_rules c.args.options.bounds) first in
    IfOk-weaker c.arg.result _ _ (λ command adds. adds.shape (local c.action-words.result (ap (λ (r : Rule). r.is_simple) words)) ∙ ap₂ with_rule limits words)
    c.arg.ensures
