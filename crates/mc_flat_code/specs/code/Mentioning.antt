-- What code mentions that it didn't before it grew.
use Rattle.std.specs.Prelude.{◌≡◌, ◌⊎◌}
use Rattle.mc_model.specs.Scheduled.{Label, for_symbol, for_constant}
use Rattle.mc_flat_code.specs.Mentions.{Mention, of_symbol, of_constant, CodeMentions}
use Rattle.mc_flat_code.specs.declared.code.Code.{Code}

-- code that mentions these things at most besides what it mentioned
pub record Brings (old new : Code) (X : Mention → Type 0) : Type 0 where
  pub only : (m : Mention) → CodeMentions new m → CodeMentions old m ⊎ X m

abbrev pub Nothing : Mention → Type 0
Nothing m = ⊥

-- what a test mentions
abbrev pub LabelMentions : Label → Mention → Type 0
LabelMentions (for_symbol f) m = m ≡ of_symbol f
LabelMentions (for_constant c) m = m ≡ of_constant c
