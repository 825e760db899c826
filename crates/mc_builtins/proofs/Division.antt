-- What divisions of two numbers of 64 bits give, wrapped.
use Rattle.std.proofs.Common.{◌≡◌, ◌≢◌, ℕ, zero, suc, ◌+◌, ◌-◌, ◌*◌, ◌<◌, ◌≤◌, ◌/◌, ◌%◌, ◌^◌, ℤ, pos, ◌-ℤ◌, ◌*ℤ◌, refl, sym, ap, ap₂, subst, ◌∙◌, arith, Bool, true, false, Some, FitsSigned, to_z, of_z}
use Rattle.std.specs.Prelude.{negsuc, neg_ℤ, if◌then◌else◌, None}
use Rattle.std.specs.Int.{w64, int_wrap, int_wrapping_div, int_wrapping_neg}
use Rattle.std.specs.Int.RustNames.{int_div, int_rem, int_lt, unsigned_abs}
use Rattle.std.proofs.lemmas.Bool.Decides.{nat_tests, Decides-int_eq}
use Rattle.std.specs.Ordering.{int_eq}
use Rattle.std.proofs.Math.Nat.{div-le_self, div-eq_of_lt-le, add-mul}
use Rattle.std.proofs.lemmas.Nat.{mod_below, div-add-mod'}
use Rattle.std.proofs.lemmas.Int.{to_z-of_z, int_wrap_fits, SFits-int_wrap, wrapping_sub-bits, wrapping_mul_is, wrapping_neg_is, int_wrap-sub_right, int_wrap-mul_left, fits_signed_from_abs}
use Rattle.mc_model.specs.Builtins.{int_floor, int_mod}
use Rattle.mc_builtins.specs.code.Made.{quotient_of}

abs-neg : (n : ℕ) → unsigned_abs (neg_ℤ (pos n)) ≡ n
abs-neg zero = refl
abs-neg (suc n) = refl

-- a quotient is no further from zero than the dividend
abs-quotient : (a b : ℤ) → unsigned_abs (int_div a b) ≤ unsigned_abs a
abs-quotient (pos a) (pos b) = div-le_self a b
abs-quotient (pos a) (negsuc b) = omega (arith, abs-neg (a / suc b), div-le_self a (suc b))
abs-quotient (negsuc a) (pos b) = omega (arith, abs-neg (suc a / b), div-le_self (suc a) b)
abs-quotient (negsuc a) (negsuc b) = div-le_self (suc a) (suc b)

abs-fits : (a : ℤ) → FitsSigned w64 a → unsigned_abs a ≤ 2 ^ 63
abs-fits (pos n) f = let h = f.sfits in omega arith
abs-fits (negsuc n) f = let h = f.sfits in omega arith

-- a number whose bits are cast is the number wrapped
cast-wrap : (z : ℤ) → unsigned_abs z < 2 ^ 64 → to_z w64 (of_z w64 z) ≡ int_wrap w64 z
unfolding int_wrap
cast-wrap (pos n) h = ap (to_z w64) (omega arith)
cast-wrap (negsuc n) h = ap (to_z w64) (omega arith)

quotient-wrap : (a b : ℤ) → FitsSigned w64 a → int_wrapping_div w64 a b ≡ int_wrap w64 (int_div a b)
quotient-wrap a b f = cast-wrap (int_div a b) (omega (arith, abs-quotient a b, abs-fits a f))

bits : (z : ℤ) → FitsSigned w64 z → to_z w64 (of_z w64 z) ≡ z
bits z f = to_z-of_z w64 z f

bits-below : (z : ℤ) → FitsSigned w64 z → of_z w64 z < 2 ^ 64
bits-below (pos n) f = let h = f.sfits in omega arith
bits-below (negsuc n) f = omega arith

isnt_true : (b : Bool) → (b ≡ true → ⊥) → b ≡ false
isnt_true true h = absurd (h refl)
isnt_true false h = refl

-- the answer of a division by a number that isn't zero
divided : (f : ℤ → ℤ → ℤ) (a b q : ℤ) → (of_z w64 b ≡ 0 → ⊥) → q ≡ int_wrap w64 (f a b) → Some q ≡ quotient_of f a b
divided f a b q some is =
    let other : int_eq b (pos 0) ≡ false = isnt_true (int_eq b (pos 0)) (λ e. some (ap (of_z w64) ((Decides-int_eq b (pos 0)).0 e))) in
    ap Some is ∙ sym (ap (λ t. if t then None else Some (int_wrap w64 (f a b))) other)

-- the code's quotient, as the bits of both numbers give it
module _ (a b q : ℤ) (fa : FitsSigned w64 a) (fb : FitsSigned w64 b) (is : q ≡ int_wrapping_div w64 (to_z w64 (of_z w64 a)) (to_z w64 (of_z w64 b))) where
  quotient_wrapped : to_z w64 (of_z w64 q) ≡ int_wrap w64 (int_div a b)
  quotient_wrapped =
      let e : q ≡ int_wrap w64 (int_div a b) = is ∙ ap₂ (int_wrapping_div w64) (bits a fa) (bits b fb) ∙ quotient-wrap a b fa in
      ap (λ z. to_z w64 (of_z w64 z)) e ∙ bits (int_wrap w64 (int_div a b)) (SFits-int_wrap w64 (int_div a b))

  pub quotient_gives : (of_z w64 b ≡ 0 → ⊥) → Some (to_z w64 (of_z w64 q)) ≡ quotient_of int_div a b
  quotient_gives some = divided int_div a b (to_z w64 (of_z w64 q)) some quotient_wrapped

-- one less than a number with a remainder has the same quotient
same_quotient : (n d x r : ℕ) → suc n ≡ x * d + r → 0 < r → r < d → n / d ≡ x
same_quotient n d x r e some small = div-eq_of_lt-le {k = x} d {m = n} (omega arith) (omega (arith, add-mul x 1 d))

-- one less than a multiple has a quotient that is one less
less_quotient : (n d x : ℕ) → suc n ≡ suc x * d → 0 < d → n / d ≡ x
less_quotient n d x e some = div-eq_of_lt-le {k = x} d {m = n} (omega (arith, add-mul x 1 d)) (omega (arith, add-mul x 1 d))

neg_less : (x : ℕ) → negsuc x ≡ neg_ℤ (pos x) -ℤ pos 1
neg_less zero = refl
neg_less (suc y) = ap negsuc (omega arith)

is_above : (r : ℕ) → int_lt (pos 0) (pos r) ≡ true → 0 < r
is_above r h = grind (arith, nat_tests)

isnt_above : (r : ℕ) → int_lt (pos 0) (pos r) ≡ false → r ≡ 0
isnt_above r h = grind (arith, nat_tests)

neg_isnt_above : (r : ℕ) → int_lt (pos 0) (neg_ℤ (pos r)) ≡ true → ⊥
neg_isnt_above zero h = cc
neg_isnt_above (suc r) h = cc

zero_rem : (d : ℕ) → 0 % suc d ≡ 0
zero_rem d = omega (arith, div-add-mod' 0 (suc d))

zero_div : (d : ℕ) → 0 / suc d ≡ 0
zero_div d = omega (arith, div-le_self 0 (suc d))

-- by a negative divisor, where a remainder above zero is left
floor_is_less : (a b : ℤ) → b ≢ pos 0 → int_lt (pos 0) b ≡ false → int_lt (pos 0) (int_rem a b) ≡ true → int_floor a b ≡ int_div a b -ℤ pos 1
floor_is_less a (pos zero) some below h = absurd (some refl)
floor_is_less a (pos (suc k)) some below h = absurd (omega (arith, isnt_above (suc k) below))
floor_is_less (pos zero) (negsuc k) some below h = absurd (omega (arith, is_above (0 % suc k) h, zero_rem k))
floor_is_less (pos (suc n)) (negsuc k) some below h =
    ap negsuc (same_quotient n (suc k) (suc n / suc k) (suc n % suc k) (sym (div-add-mod' (suc n) (suc k))) (is_above (suc n % suc k) h) (mod_below (suc n) (suc k) (omega arith)))
    ∙ neg_less (suc n / suc k)
floor_is_less (negsuc n) (negsuc k) some below h = absurd (neg_isnt_above (suc n % suc k) h)

less_fits : (a b : ℤ) → FitsSigned w64 a → b ≢ pos 0 → int_lt (pos 0) b ≡ false → int_lt (pos 0) (int_rem a b) ≡ true → FitsSigned w64 (int_floor a b) × FitsSigned w64 (int_div a b)
less_fits a (pos zero) f some below h = absurd (some refl)
less_fits a (pos (suc k)) f some below h = absurd (omega (arith, isnt_above (suc k) below))
less_fits (pos zero) (negsuc k) f some below h = absurd (omega (arith, is_above (0 % suc k) h, zero_rem k))
less_fits (pos (suc n)) (negsuc k) f some below h =
    let small = f.sfits in
    let q = div-le_self (suc n) (suc k) in
    (record { sfits = omega (arith, div-le_self n (suc k)) }, fits_signed_from_abs w64 (int_div (pos (suc n)) (negsuc k)) (omega (arith, abs-quotient (pos (suc n)) (negsuc k))))
less_fits (negsuc n) (negsuc k) f some below h = absurd (neg_isnt_above (suc n % suc k) h)

neg_multiple : (n d x : ℕ) → suc n ≡ x * d → 0 < d → negsuc (n / d) ≡ neg_ℤ (pos x)
neg_multiple n d zero e some = absurd (omega arith)
neg_multiple n d (suc x) e some = ap negsuc (less_quotient n d x e some)

-- and where none is left, or one below zero
floor_is_same : (a b : ℤ) → b ≢ pos 0 → int_lt (pos 0) b ≡ false → int_lt (pos 0) (int_rem a b) ≡ false → int_floor a b ≡ int_div a b
floor_is_same a (pos zero) some below h = absurd (some refl)
floor_is_same a (pos (suc k)) some below h = absurd (omega (arith, isnt_above (suc k) below))
floor_is_same (pos zero) (negsuc k) some below h = ap pos (zero_div k) ∙ sym (ap (λ x. neg_ℤ (pos x)) (zero_div k))
floor_is_same (pos (suc n)) (negsuc k) some below h =
    neg_multiple n (suc k) (suc n / suc k) (omega (arith, div-add-mod' (suc n) (suc k), isnt_above (suc n % suc k) h)) (omega arith)
floor_is_same (negsuc n) (negsuc k) some below h = refl

-- the code's quotient that is rounded down, where the divisor is negative
module _ (a b q r : ℤ) (fa : FitsSigned w64 a) (fb : FitsSigned w64 b) (some : b ≢ pos 0) (down : int_lt (pos 0) (to_z w64 (of_z w64 b)) ≡ false)
    (left : r ≡ int_rem (to_z w64 (of_z w64 a)) (to_z w64 (of_z w64 b))) (fr : FitsSigned w64 r)
    (is : q ≡ int_wrapping_div w64 (to_z w64 (of_z w64 a)) (to_z w64 (of_z w64 b))) where
  below : int_lt (pos 0) b ≡ false
  below = ap (int_lt (pos 0)) (sym (bits b fb)) ∙ down

  rest : to_z w64 (of_z w64 r) ≡ int_rem a b
  rest = bits r fr ∙ left ∙ ap₂ int_rem (bits a fa) (bits b fb)

  pub floor_less : int_lt (pos 0) (to_z w64 (of_z w64 r)) ≡ true → to_z w64 (of_z w64 (to_z w64 (of_z w64 q) -ℤ pos 1)) ≡ int_wrap w64 (int_floor a b)
  floor_less h =
      let above : int_lt (pos 0) (int_rem a b) ≡ true = ap (int_lt (pos 0)) (sym rest) ∙ h in
      let fits = less_fits a b fa some below above in
      let whole : to_z w64 (of_z w64 q) ≡ int_div a b = quotient_wrapped a b q fa fb is ∙ int_wrap_fits w64 (int_div a b) fits.1 in
      ap (λ z. to_z w64 (of_z w64 (z -ℤ pos 1))) whole
      ∙ ap (λ z. to_z w64 (of_z w64 z)) (sym (floor_is_less a b some below above))
      ∙ bits (int_floor a b) fits.0
      ∙ sym (int_wrap_fits w64 (int_floor a b) fits.0)

  pub floor_same : int_lt (pos 0) (to_z w64 (of_z w64 r)) ≡ false → to_z w64 (of_z w64 q) ≡ int_wrap w64 (int_floor a b)
  floor_same h =
      quotient_wrapped a b q fa fb is ∙ ap (int_wrap w64) (sym (floor_is_same a b some below (ap (int_lt (pos 0)) (sym rest) ∙ h)))

-- the code's remainder of the quotient that is rounded down
module _ (a b f : ℤ) (fa : FitsSigned w64 a) (fb : FitsSigned w64 b) (is : f ≡ int_wrap w64 (int_floor (to_z w64 (of_z w64 a)) (to_z w64 (of_z w64 b)))) where
  floored : f ≡ int_wrap w64 (int_floor a b)
  floored = is ∙ ap (int_wrap w64) (ap₂ int_floor (bits a fa) (bits b fb))

  product : to_z w64 ((of_z w64 f * of_z w64 b) % 2 ^ 64) ≡ int_wrap w64 (int_floor a b *ℤ b)
  product =
      let ff : FitsSigned w64 f = subst (FitsSigned w64) (sym floored) (SFits-int_wrap w64 (int_floor a b)) in
      wrapping_mul_is w64 f b ff fb ∙ ap (λ z. int_wrap w64 (z *ℤ b)) floored ∙ int_wrap-mul_left w64 (int_floor a b) b

  modulo_wrapped : to_z w64 ((of_z w64 a + (2 ^ 64 - (of_z w64 f * of_z w64 b) % 2 ^ 64)) % 2 ^ 64) ≡ int_wrap w64 (int_mod a b)
  modulo_wrapped =
      wrapping_sub-bits w64 (of_z w64 a) ((of_z w64 f * of_z w64 b) % 2 ^ 64) (bits-below a fa) (mod_below (of_z w64 f * of_z w64 b) (2 ^ 64) (omega arith))
      ∙ ap₂ (λ x y. int_wrap w64 (x -ℤ y)) (bits a fa) product
      ∙ int_wrap-sub_right w64 a (int_floor a b *ℤ b)

  pub modulo_gives : (of_z w64 b ≡ 0 → ⊥) → Some (to_z w64 ((of_z w64 a + (2 ^ 64 - (of_z w64 f * of_z w64 b) % 2 ^ 64)) % 2 ^ 64)) ≡ quotient_of int_mod a b
  modulo_gives some = divided int_mod a b (to_z w64 ((of_z w64 a + (2 ^ 64 - (of_z w64 f * of_z w64 b) % 2 ^ 64)) % 2 ^ 64)) some modulo_wrapped

pub negated : (a r : ℤ) → FitsSigned w64 a → r ≡ int_wrapping_neg w64 (to_z w64 (of_z w64 a)) → to_z w64 (of_z w64 r) ≡ int_wrap w64 (neg_ℤ a)
negated a r f is =
    let e : r ≡ int_wrap w64 (neg_ℤ a) = is ∙ ap (int_wrapping_neg w64) (bits a f) ∙ wrapping_neg_is w64 a f in
    ap (λ z. to_z w64 (of_z w64 z)) e ∙ bits (int_wrap w64 (neg_ℤ a)) (SFits-int_wrap w64 (neg_ℤ a))
