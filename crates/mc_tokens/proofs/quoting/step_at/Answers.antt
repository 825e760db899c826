use Rattle.std.proofs.Common.{◌≡◌, ◌+◌, ◌<◌, length, drop, get_or, sym, ap, ◌∙◌, arith}
use Rattle.mc_tokens.specs.Spots.{At, Plain, Backslash}
use Rattle.mc_tokens.specs.code.Walks.{halted}
use Rattle.mc_tokens.proofs.CharLen.{inside}
use Rattle.mc_tokens.proofs.Quotes.{next_is, on, halts, closing, doubling, escaping, plain_char, plain_bad}
use Rattle.mc_tokens.proofs.quoting.step_at.Goals as goal

pub returns-then-byte_at-quote-clause-value : goal.returns-then-byte_at-quote-clause-value
returns-then-byte_at-quote-clause-value c = λ start.
    let text = c.args.text.now in
    let i = c.args.i in
    let next : get_or text (i + 1) 0 ≡ c.args.quote = sym c.byte_at.ensures ∙ c.if-byte_at-quote.true in
    let room : i + 1 < length text = inside text (i + 1) (omega arith) in
    on c.args.quote start Plain i text (omega arith) Plain 1 (i + 2) (doubling c.args.quote 0 i (get_or text i 0) (drop (i + 1) text) c.if-b-quote.true (next_is i text ∙ next)) (omega arith) (omega arith)

pub returns-then-b-quote-clause-value : goal.returns-then-b-quote-clause-value
returns-then-b-quote-clause-value c = λ start.
    let text = c.args.text.now in
    let i = c.args.i in
    halts c.args.quote start Plain i text c.requires.inside (At (i + 1)) (closing c.args.quote 0 i (get_or text i 0) (drop (i + 1) text) c.if-b-quote.true (λ e. c.if-byte_at-quote.false (c.byte_at.ensures ∙ sym (next_is i text) ∙ e)))

pub returns-in-Ok-clause-value : goal.returns-in-Ok-clause-value
returns-in-Ok-clause-value c = λ start.
    let text = c.args.text.now in
    let i = c.args.i in
    on c.args.quote start Plain i text c.requires.inside (Backslash i) 0 (i + 1) (escaping c.args.quote 0 i (get_or text i 0) (drop (i + 1) text) c.if-b-quote.false c.if-b-eq92.true) (omega arith) (omega arith)
    ∙ c.in-Ok.ensures.value c.args.quote start

pub returns-in-Err-clause-value : goal.returns-in-Err-clause-value
returns-in-Err-clause-value c = λ start.
    let text = c.args.text.now in
    let i = c.args.i in
    on c.args.quote start Plain i text c.requires.inside (Backslash i) 0 (i + 1) (escaping c.args.quote 0 i (get_or text i 0) (drop (i + 1) text) c.if-b-quote.false c.if-b-eq92.true) (omega arith) (omega arith)
    ∙ c.in-Err.ensures.value c.args.quote start

pub returns-in-0-clause-value : goal.returns-in-0-clause-value
returns-in-0-clause-value c = λ start.
    plain_bad c.args.quote start c.args.i c.char_len.result c.args.text.now c.requires.inside c.if-b-quote.false c.if-b-eq92.false c.char_len.ensures.value c.in-0.is ∙ ap (halted start) (sym c.no_text.ensures)

pub returns-in_default-clause-value : goal.returns-in_default-clause-value
returns-in_default-clause-value c = λ start.
    plain_char c.args.quote start c.args.i c.char_len.result (c.args.i + c.char_len.result) c.args.text.now c.requires.inside c.if-b-quote.false c.if-b-eq92.false c.char_len.ensures.value (omega arith) (omega arith) (omega arith)
