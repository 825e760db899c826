use Rattle.std.proofs.Common.{sym, ap, ◌∙◌, arith}
use Rattle.mc_tokens.specs.code.Walks.{halted}
use Rattle.mc_tokens.proofs.CharLen.{inside}
use Rattle.mc_tokens.proofs.Layouts.{EndsNot, block_run, block_char, block_bad, block_stops, block_ends}
use Rattle.mc_tokens.proofs.comments.block_rest.Goals as goal
use Rattle.mc_tokens.proofs.comments.block_rest.Goals.{After-char_len-len, else-text-i-eq42-via-then-text-i-eq42+else-byte_at-eq47, else-text-i-eq42-via-else-text-i-eq42}

pub returns-then-i-text-clause-value : goal.returns-then-i-text-clause-value
returns-then-i-text-clause-value c = λ start.
    let text = c.args.text.now in
    c.loop-i.invariant.walk start ∙ block_run start _ _ text c.skip_class-i.ensures.value ∙ block_ends start _ text c.if-i-text.true

pub returns-then-byte_at-eq47-clause-value : goal.returns-then-byte_at-eq47-clause-value
returns-then-byte_at-eq47-clause-value c = λ start.
    let text = c.args.text.now in
    c.loop-i.invariant.walk start ∙ block_run start _ _ text c.skip_class-i.ensures.value ∙ block_stops start _ text (inside text _ (omega (arith, c.byte_at.ensures, c.if-byte_at-eq47.true))) c.if-text-i-eq42.true (sym c.byte_at.ensures ∙ c.if-byte_at-eq47.true)

goes_on_here : (c : After-char_len-len) → EndsNot c.skip_class-i.result c.args.text.now
goes_on_here c e f = elim c.else-text-i-eq42.branch [ else-text-i-eq42-via-then-text-i-eq42+else-byte_at-eq47 w ↦ w.if-byte_at-eq47.false (w.byte_at.ensures ∙ f) | else-text-i-eq42-via-else-text-i-eq42 w ↦ w.if-text-i-eq42.false e ]

pub returns-then-len-eq0-clause-value : goal.returns-then-len-eq0-clause-value
returns-then-len-eq0-clause-value c = λ start.
    let text = c.args.text.now in
    c.loop-i.invariant.walk start ∙ block_run start _ _ text c.skip_class-i.ensures.value ∙ block_bad start _ _ text (omega arith) (goes_on_here (goal.at.returns-then-len-eq0-clause-value c).After-char_len-len) c.char_len-len.ensures.value c.if-len-eq0.true ∙ ap (halted start) (sym c.no_text.ensures)

pub loop-i-preserved : goal.loop-i-preserved
loop-i-preserved c =
    let text = c.args.text.now in
    record {
      walk = λ start. c.loop-i.invariant.walk start ∙ block_run start _ _ text c.skip_class-i.ensures.value ∙ block_char start _ _ _ text (omega arith) (goes_on_here (goal.at.loop-i-preserved c).After-char_len-len) c.char_len-len.ensures.value (omega arith) (omega arith) (omega arith);
      above = omega arith;
      bound = omega arith;
    }
