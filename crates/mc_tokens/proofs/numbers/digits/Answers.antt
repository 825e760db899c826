use Rattle.std.proofs.Common.{◌+◌, ◌<◌, drop, length, sym, ap, ◌∙◌, arith}
use Rattle.std.proofs.lemmas.List.{length-drop, drop-drop}
use Rattle.std.specs.List.{prefix_len}
use Rattle.mc_tokens.specs.Classes.{is_digit_of}
use Rattle.mc_tokens.specs.Tokens.{Tok}
use Rattle.mc_tokens.specs.declared.token.Kind.TheVariants.{Int}
use Rattle.mc_tokens.proofs.Forms.{form-based, form-character, some_digits, run_digits, based_number, character_number, decimal_digits}
use Rattle.mc_tokens.proofs.numbers.digits.Goals as goal

pub number-requires-clause-base : goal.number-requires-clause-base
number-requires-clause-base c = let b = form-based (drop c.args.start c.args.text.now) c.in-Based.base c.in-Based.ensures in (b.positive, b.small)

pub number-requires-clause-range : goal.number-requires-clause-range
number-requires-clause-range c =
    let text = c.args.text.now in
    let b = form-based (drop c.args.start text) c.in-Based.base c.in-Based.ensures in
    let some = some_digits c.in-Based.base (drop 2 (drop c.args.start text)) b.digit in
    let same = ap (prefix_len (is_digit_of c.in-Based.base)) (drop-drop 2 c.args.start text) in
    let more : c.args.start + 2 < c.digits_end-stop.result = omega (arith, some, same, c.digits_end-stop.ensures.value) in
    (omega arith, more, c.digits_end-stop.ensures.bound.1)

pub number-requires-clause-digits : goal.number-requires-clause-digits
number-requires-clause-digits c = run_digits (is_digit_of c.in-Based.base) (c.args.start + 2) c.digits_end-stop.result c.args.text.now c.digits_end-stop.ensures.value

pub bounds-text-start : goal.bounds-text-start
bounds-text-start c = let long = form-character (drop c.args.start c.args.text.now) c.in-Character.ensures in omega (arith, long, length-drop c.args.start c.args.text.now)

pub returns-in-Based-clause-value : goal.returns-in-Based-clause-value
returns-in-Based-clause-value c = c.number.ensures.value ∙ sym (based_number c.args.start c.in-Based.base c.digits_end-stop.result c.args.text.now c.in-Based.ensures c.digits_end-stop.ensures.value)

pub returns-in-Character-clause-value : goal.returns-in-Character-clause-value
returns-in-Character-clause-value c = ap (λ n. Tok (Int n) c.args.start (c.args.start + 3)) c.from.ensures ∙ sym (character_number c.args.start c.args.text.now c.in-Character.ensures)

pub returns-in-Character-clause-ends : goal.returns-in-Character-clause-ends
returns-in-Character-clause-ends c = let long = form-character (drop c.args.start c.args.text.now) c.in-Character.ensures in let room : c.args.start + 2 < length c.args.text.now = omega (arith, long, length-drop c.args.start c.args.text.now) in (omega arith, omega arith, λ _. omega arith)

pub returns-in-Decimal-clause-value : goal.returns-in-Decimal-clause-value
returns-in-Decimal-clause-value c = c.decimal.ensures.value ∙ sym (decimal_digits c.args.start c.args.text.now c.in-Decimal.ensures)
