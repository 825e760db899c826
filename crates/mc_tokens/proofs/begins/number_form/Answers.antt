use Rattle.std.proofs.Common.{sym, ap, ◌∙◌, ◌+◌, drop}
use Rattle.mc_tokens.specs.Tokens.{form_after_zero}
use Rattle.mc_tokens.proofs.Forms.{form_zero}
use Rattle.mc_tokens.proofs.begins.number_form.Goals as goal

pub returns-then-text-start-eq48 : goal.returns-then-text-start-eq48
returns-then-text-start-eq48 c =
    c.form_after_zero.ensures ∙ ap (λ b. form_after_zero b (drop (c.args.start + 2) c.args.text.now)) c.byte_at.ensures ∙ sym (form_zero c.args.start c.args.text.now c.if-text-start-eq48.true)
