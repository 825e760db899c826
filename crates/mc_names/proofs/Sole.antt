-- The one character of a text.
use Rattle.std.proofs.Common.{◌≡◌, ℕ, Bool, true, false, cond, List, [], ◌∷◌, ◌++◌, length, Some, None, refl, ap, ◌∙◌, arith}
use Rattle.std.proofs.lemmas.Str.{chars-nil, chars_past_char, IsUtf8-past_char, is_utf8-from_IsUtf8, IsUtf8-from_is_utf8}
use Rattle.std.specs.Str.{IsUtf8, is_utf8, chars}
use Rattle.std.specs.Char.{encode_utf8}
use Rattle.mc_names.specs.Characters.{sole, sole_character}

empty_is : (bs : List ℕ) → length bs ≡ 0 → bs ≡ []
empty_is [] h = refl
empty_is (b ∷ bs) h = absurd (omega arith)

pub sole-none : (bs : List ℕ) → length bs ≡ 0 → sole (chars bs) ≡ None
sole-none bs h = ap (λ l. sole (chars l)) (empty_is bs h) ∙ ap sole chars-nil

pub sole-one : (bs rest : List ℕ) (c : ℕ) → IsUtf8 bs → bs ≡ encode_utf8 c ++ rest → length rest ≡ 0 → sole (chars bs) ≡ Some c
sole-one bs rest c u e h = ap sole (chars_past_char bs rest c u e ∙ ap (λ l. c ∷ chars l) (empty_is rest h) ∙ ap (λ l. c ∷ l) chars-nil)

pub sole-two : (bs rest more : List ℕ) (c d : ℕ) → IsUtf8 bs → bs ≡ encode_utf8 c ++ rest → rest ≡ encode_utf8 d ++ more → sole (chars bs) ≡ None
sole-two bs rest more c d u e f = ap sole (chars_past_char bs rest c u e ∙ ap (λ l. c ∷ l) (chars_past_char rest more d (IsUtf8-past_char bs rest c u e) f))

pub sole_character-text : (w : List ℕ) → IsUtf8 w → sole_character w ≡ sole (chars w)
sole_character-text w u = ap (λ b. cond b (sole (chars w)) None) (is_utf8-from_IsUtf8 w u)

pub sole_character-other : (w : List ℕ) → (IsUtf8 w → ⊥) → sole_character w ≡ None
sole_character-other w h = by (is_utf8 w) refl
  where
    by : (b : Bool) → is_utf8 w ≡ b → cond b (sole (chars w)) None ≡ None
    by true e = absurd (h (IsUtf8-from_is_utf8 w e))
    by false e = refl
