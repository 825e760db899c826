use Rattle.std.proofs.Common.{◌≡◌, ◌+◌, ◌<◌, ◌++◌, [], ◌∷◌, length, drop, get_or, refl, sym, ap, ◌∙◌, append-nil, arith}
use Rattle.mc_tokens.specs.Spots.{Plain}
use Rattle.std.specs.Prelude.{slice_range}
use Rattle.mc_tokens.specs.Contents.{contents}
use Rattle.mc_tokens.specs.code.Walks.{escape_bytes}
use Rattle.mc_tokens.proofs.CharLen.{inside}
use Rattle.mc_tokens.proofs.Sayings.{closing_says, doubled_says, backslash_says, plain_says, bad_says, joined}
use Rattle.mc_tokens.proofs.spoken.spoken.Goals as goal

pub returns-then-byte_at-quote : goal.returns-then-byte_at-quote
returns-then-byte_at-quote c =
    let bytes = c.args.bytes.now in
    sym (append-nil c.loop-i.text) ∙ ap (λ l. c.loop-i.text ++ l) (sym (closing_says c.args.quote c.loop-i.i bytes c.loop-i-test.true c.if-b-quote.true (λ e. c.if-byte_at-quote.true (c.byte_at.ensures ∙ e)))) ∙ c.loop-i.invariant

pub loop-i-preserved-then-b-quote : goal.loop-i-preserved-then-b-quote
loop-i-preserved-then-b-quote c =
    let bytes = c.args.bytes.now in
    let i = c.loop-i.i in
    let next : get_or bytes (i + 1) 0 ≡ c.args.quote = sym c.byte_at.ensures ∙ c.if-byte_at-quote.false in
    let room : i + 1 < length bytes = inside bytes (i + 1) (omega arith) in
    joined c.loop-i.text (c.args.quote ∷ []) (contents c.args.quote Plain 0 (drop (i + 2) bytes)) _ _ c.push.new.self c.in_ok-push.ensures.ok (doubled_says c.args.quote i bytes c.loop-i-test.true c.if-b-quote.true next (omega arith)) c.loop-i.invariant

pub returns-in_default : goal.returns-in_default
returns-in_default c =
    let bytes = c.args.bytes.now in
    sym (append-nil c.loop-i.text) ∙ ap (λ l. c.loop-i.text ++ l) (sym (backslash_says c.args.quote c.loop-i.i bytes c.loop-i-test.true c.if-b-quote.false c.if-b-eq92.true ∙ c.in_default.ensures.says c.args.quote)) ∙ c.loop-i.invariant

pub loop-i-preserved-then-b-eq92 : goal.loop-i-preserved-then-b-eq92
loop-i-preserved-then-b-eq92 c =
    let bytes = c.args.bytes.now in
    let i = c.loop-i.i in
    joined c.loop-i.text (escape_bytes c.in-Ok.escape.says) (contents c.args.quote Plain 0 (drop c.in-Ok.escape.next bytes)) _ _ c.push_said.new.text c.in_ok-push_said.ensures (backslash_says c.args.quote i bytes c.loop-i-test.true c.if-b-quote.false c.if-b-eq92.true ∙ c.in-Ok.ensures.says c.args.quote) c.loop-i.invariant

pub returns-then-len-eq0 : goal.returns-then-len-eq0
returns-then-len-eq0 c =
    let bytes = c.args.bytes.now in
    sym (append-nil c.loop-i.text) ∙ ap (λ l. c.loop-i.text ++ l) (sym (bad_says c.args.quote c.loop-i.i bytes c.loop-i-test.true c.if-b-quote.false c.if-b-eq92.false (sym c.char_len-len.ensures.value ∙ c.if-len-eq0.true))) ∙ c.loop-i.invariant

pub loop-i-preserved : goal.loop-i-preserved
loop-i-preserved c =
    let bytes = c.args.bytes.now in
    let i = c.loop-i.i in
    let n = c.char_len-len.result in
    joined c.loop-i.text (slice_range bytes i (i + n)) (contents c.args.quote Plain 0 (drop (i + n) bytes)) _ _ c.extend.new.self c.in_ok-extend.ensures.ok (plain_says c.args.quote i bytes c.loop-i-test.true n (i + n) c.if-b-quote.false c.if-b-eq92.false c.char_len-len.ensures.value (omega arith) refl (omega arith)) c.loop-i.invariant
