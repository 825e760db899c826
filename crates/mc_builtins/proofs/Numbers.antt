-- The number that a text writes, as `parse` reads it.
use Rattle.std.proofs.Common.{◌≡◌, ℕ, ◌<◌, Bool, true, false, ◌&&◌, List, [], ◌∷◌, length, nat_lt, ℤ, pos, refl, sym, ap, ◌∙◌, arith, subst, FitsSigned, to_z, of_z}
use Rattle.std.specs.Prelude.{negsuc, if◌then◌else◌}
use Rattle.std.specs.Int.{w64}
use Rattle.std.specs.Str.{all_ascii_digits}
use Rattle.std.specs.Str.Parse.{IsNumeral, without_leading_sign, signed_digits_value, digits_value}
use Rattle.std.proofs.lemmas.Str.Parse.{IsNumeralModel, numerals_by_value, tells_all_ascii_digits}
use Rattle.std.proofs.lemmas.Int.{to_z-of_z}
use Rattle.std.proofs.lemmas.Bool.Decides.{nat_tests}
use Rattle.mc_program.specs.Values.{int}
use Rattle.mc_model.specs.Outcomes.{Outcome, fails, gives}
use Rattle.mc_model.specs.Builtins.{parsed_int, fits_64}

digits : IsNumeralModel (λ ds. all_ascii_digits ds ≡ true) (digits_value 10)
digits = numerals_by_value _ tells_all_ascii_digits

is_long : (n : ℕ) → 0 < n → nat_lt 0 n ≡ true
is_long n h = grind (arith, nat_tests)

is_longer : (n : ℕ) → nat_lt 0 n ≡ true → 0 < n
is_longer n h = grind (arith, nat_tests)

fits : (z : ℤ) → FitsSigned w64 z → fits_64 z ≡ true
fits (pos n) f = let h = f.sfits in grind (arith, nat_tests)
fits (negsuc n) f = let h = f.sfits in grind (arith, nat_tests)

has_fitted : (z : ℤ) → fits_64 z ≡ true → FitsSigned w64 z
has_fitted (pos n) e = record { sfits = grind (arith, nat_tests) }
has_fitted (negsuc n) e = record { sfits = grind (arith, nat_tests) }

not_all : (a b c : Bool) → (a ≡ true → b ≡ true → c ≡ true → ⊥) → a && b && c ≡ false
not_all true true true h = absurd (h refl refl refl)
not_all true true false h = refl
not_all true false c h = refl
not_all false b c h = refl

all_hold : (a b c : Bool) → a ≡ true → b ≡ true → c ≡ true → a && b && c ≡ true
all_hold true true true p q r = refl
all_hold true true false p q r = r
all_hold true false c p q r = q
all_hold false b c p q r = p

module _ (t : List ℕ) where
  abbrev number : ℤ
  number = signed_digits_value 10 t

  abbrev IsNumber : Type 0
  IsNumber = IsNumeral 10 (without_leading_sign t) × FitsSigned w64 number

  abbrev chosen : Bool → Outcome
  chosen b = if b then gives (int number ∷ []) else fails

  pub writes_number : (n : ℤ) → IsNumber → number ≡ n → parsed_int t ≡ gives (int n ∷ [])
  writes_number n h e =
      ap chosen (all_hold (nat_lt 0 (length (without_leading_sign t))) (all_ascii_digits (without_leading_sign t)) (fits_64 number) (is_long _ h.0.0) (digits.from _ h.0.1) (fits _ h.1))
      ∙ ap (λ m. gives (int m ∷ [])) e

  pub writes_none : ¬ IsNumber → parsed_int t ≡ fails
  writes_none h =
      ap chosen (not_all (nat_lt 0 (length (without_leading_sign t))) (all_ascii_digits (without_leading_sign t)) (fits_64 number) (λ p q r. h ((is_longer _ p, digits.to _ q), has_fitted _ r)))

-- what `parse` of a text of 64 bits tells of the same text
pub number_parsed : (s t : List ℕ) → s ≡ t → (n : ℤ) → IsNumber s × (n ≡ signed_digits_value 10 s) → parsed_int t ≡ gives (int (to_z w64 (of_z w64 n)) ∷ [])
number_parsed s t same n (h, e) =
    let fitted : FitsSigned w64 n = subst (FitsSigned w64) (sym e) h.1 in
    ap parsed_int (sym same) ∙ writes_number s (to_z w64 (of_z w64 n)) h (sym (to_z-of_z w64 n fitted ∙ e))

pub none_parsed : (s t : List ℕ) → s ≡ t → ¬ (IsNumber s) → parsed_int t ≡ fails
none_parsed s t same h = ap parsed_int (sym same) ∙ writes_none s h
