use Rattle.std.proofs.Common.{sym, ◌∙◌, arith}
use Rattle.mc_tokens.proofs.Layouts.{EndsNot, block_char}
use Rattle.mc_tokens.proofs.comments.open_comment.Goals as goal
use Rattle.mc_tokens.proofs.comments.open_comment.Goals.{After-char_len-len, else-text-i-eq42-via-then-text-i-eq42+else-byte_at-eq47, else-text-i-eq42-via-else-text-i-eq42}

goes_on_here : (c : After-char_len-len) → EndsNot c.loop-i.i c.args.text.now
goes_on_here c e f = elim c.else-text-i-eq42.branch [ else-text-i-eq42-via-then-text-i-eq42+else-byte_at-eq47 w ↦ w.if-byte_at-eq47.false (w.byte_at.ensures ∙ f) | else-text-i-eq42-via-else-text-i-eq42 w ↦ w.if-text-i-eq42.false e ]

pub loop-i-preserved : goal.loop-i-preserved
loop-i-preserved c = (
  omega arith,
  λ start. sym (block_char start c.loop-i.i c.char_len-len.result _ c.args.text.now (omega arith) (goes_on_here (goal.at.loop-i-preserved c).After-char_len-len) c.char_len-len.ensures.value (omega arith) (omega arith) (omega arith)) ∙ c.loop-i.invariant.1 start,
)
