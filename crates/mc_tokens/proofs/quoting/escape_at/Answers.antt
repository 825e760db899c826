use Rattle.std.proofs.Common.{◌+◌, ◌<◌, ◌++◌, drop, get_or, sym, ap, ◌∙◌, arith, encode_utf8}
use Rattle.std.proofs.lemmas.Str.{encode_ascii}
use Rattle.std.proofs.lemmas.Bool.{ltb-true}
use Rattle.mc_tokens.specs.Spots.{Plain, Backslash}
use Rattle.mc_tokens.specs.Contents.{contents, escaped}
use Rattle.mc_tokens.proofs.Escapes.{nothing_said, escaped_small, simple_walk, simple_says, line_says, x_walk, x_says, u_walk, u_says, long_walk, long_says, octal_walk, octal_says, no_walk, no_says}
use Rattle.mc_tokens.proofs.quoting.escape_at.Goals as goal

pub returns-then-b-eq10-clause-value : goal.returns-then-b-eq10-clause-value
returns-then-b-eq10-clause-value c = λ q start. simple_walk q start c.args.at (c.args.at + 1) c.args.text.now (omega arith) (sym c.in-Some.ensures.some)

pub returns-then-b-eq10-clause-says : goal.returns-then-b-eq10-clause-says
returns-then-b-eq10-clause-says c = λ q. line_says q 0 0 (c.args.at + 1) c.args.text.now (omega arith) c.if-b-eq10.true

pub returns-else-b-eq10-clause-value : goal.returns-else-b-eq10-clause-value
returns-else-b-eq10-clause-value c = λ q start. simple_walk q start c.args.at (c.args.at + 1) c.args.text.now (omega arith) (sym c.in-Some.ensures.some)

pub returns-else-b-eq10-clause-says : goal.returns-else-b-eq10-clause-says
returns-else-b-eq10-clause-says c = λ q.
    let text = c.args.text.now in
    let b = get_or text (c.args.at + 1) 0 in
    let byte : b < 256 = (c.type_inv.text (c.args.at + 1)).fits in
    let small : escaped b < 128 = ltb-true (escaped b) 128 (escaped_small b byte (sym c.in-Some.ensures.some)) in
    simple_says q 0 0 (c.args.at + 1) text (omega arith) (sym c.in-Some.ensures.some) c.if-b-eq10.false
    ∙ ap (λ l. l ++ contents q Plain 0 (drop (c.args.at + 1 + 1) text)) (sym (ap encode_utf8 (c.from.ensures ∙ c.in-Some.ensures.value) ∙ encode_ascii (escaped b) small))

pub returns-then-b-eq120-clause-value : goal.returns-then-b-eq120-clause-value
returns-then-b-eq120-clause-value c = λ q start. x_walk q start c.args.at (c.args.at + 1) c.args.text.now (omega arith) c.if-b-eq120.true ∙ c.numeral.ensures.value q start

pub returns-then-b-eq120-clause-says : goal.returns-then-b-eq120-clause-says
returns-then-b-eq120-clause-says c =
    let text = c.args.text.now in
    let i = c.args.at + 1 in
    λ q. x_says q 0 0 i text (omega arith) c.if-b-eq120.true ∙ c.numeral.ensures.says q

pub returns-then-is_digit_of-clause-value : goal.returns-then-is_digit_of-clause-value
returns-then-is_digit_of-clause-value c = λ q start.
    octal_walk q start c.args.at (c.args.at + 1) c.args.text.now (omega arith) (sym c.in_default.ensures.some) c.if-b-eq120.false (sym c.is_digit_of.ensures ∙ c.if-is_digit_of.true)
    ∙ c.numeral-then-is_digit_of.ensures.value q start

pub returns-then-is_digit_of-clause-says : goal.returns-then-is_digit_of-clause-says
returns-then-is_digit_of-clause-says c =
    let text = c.args.text.now in
    let i = c.args.at + 1 in
    λ q. octal_says q 0 0 i text (omega arith) (sym c.in_default.ensures.some) c.if-b-eq120.false (sym c.is_digit_of.ensures ∙ c.if-is_digit_of.true) ∙ c.numeral-then-is_digit_of.ensures.says q

pub returns-then-b-eq117-clause-value : goal.returns-then-b-eq117-clause-value
returns-then-b-eq117-clause-value c = λ q start. u_walk q start c.args.at (c.args.at + 1) c.args.text.now (omega arith) c.if-b-eq117.true ∙ c.exact.ensures.value q start

pub returns-then-b-eq117-clause-says : goal.returns-then-b-eq117-clause-says
returns-then-b-eq117-clause-says c =
    let text = c.args.text.now in
    let i = c.args.at + 1 in
    λ q. u_says q 0 0 i text (omega arith) c.if-b-eq117.true ∙ c.exact.ensures.says q

pub returns-then-b-eq85-clause-value : goal.returns-then-b-eq85-clause-value
returns-then-b-eq85-clause-value c = λ q start. long_walk q start c.args.at (c.args.at + 1) c.args.text.now (omega arith) c.if-b-eq85.true ∙ c.exact-then-b-eq85.ensures.value q start

pub returns-then-b-eq85-clause-says : goal.returns-then-b-eq85-clause-says
returns-then-b-eq85-clause-says c =
    let text = c.args.text.now in
    let i = c.args.at + 1 in
    λ q. long_says q 0 0 i text (omega arith) c.if-b-eq85.true ∙ c.exact-then-b-eq85.ensures.says q

pub returns-clause-value : goal.returns-clause-value
returns-clause-value c = λ q start.
    no_walk q start c.args.at (c.args.at + 1) c.args.text.now (omega arith) (sym c.in_default.ensures.some) c.if-b-eq120.false (sym c.is_digit_of.ensures ∙ c.if-is_digit_of.false) c.if-b-eq117.false c.if-b-eq85.false
    ∙ sym (c.no_escape.ensures.value start)

pub returns-clause-says : goal.returns-clause-says
returns-clause-says c = λ q.
    no_says q 0 0 (c.args.at + 1) c.args.text.now (omega arith) (sym c.in_default.ensures.some) c.if-b-eq120.false (sym c.is_digit_of.ensures ∙ c.if-is_digit_of.false) c.if-b-eq117.false c.if-b-eq85.false

pub returns-then-i-text-clause-says : goal.returns-then-i-text-clause-says
returns-then-i-text-clause-says c = λ q. nothing_said q (Backslash 0) (c.args.at + 1) c.args.text.now (omega arith)
