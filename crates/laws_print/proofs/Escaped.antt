-- An escaped byte of ASCII inside quotes: the walk goes on after it, and it says the byte.
use Rattle.std.proofs.Common.{◌≡◌, ℕ, ◌+◌, ◌*◌, ◌/◌, ◌%◌, ◌<◌, Bool, true, false, cond, List, [], ◌∷◌, ◌++◌, length, take, refl, sym, ap, ◌∙◌, subst, arith, ◌⊎◌, inl, inr, ⊎_elim, nat_eq}
use Rattle.std.specs.Prelude.{◌==◌, ◌&&◌, ◌||◌, ◌≢◌, nat_lt}
use lib.Utf8.{scalar, low_scalar, encode}
use Rattle.std.proofs.lemmas.Bool.{ne_eqb, lt-ltb, eqb-true, eqb-false}
use Rattle.mc_program.specs.Printed.{escaped as printed_byte, hex_digit as digit_of}
use Rattle.mc_tokens.specs.Classes.{is_digit_of, hex_value}
use Rattle.mc_tokens.specs.Utf8.{char_len, len_of}
use Rattle.mc_tokens.specs.Spots.{Faulty, Go, Stop, Quoting, Plain, Backslash, Digits, quote_turn, is_simple}
use Rattle.mc_tokens.specs.Contents.{says, contents, escaped}
use Rattle.mc_tokens.specs.code.Walks.{quote_walk}
use Rattle.mc_tokens.specs.declared.token.FaultKind.TheVariants.{Unterminated}
use Rattle.mc_tokens.proofs.Quotes.{yes, no, escaping, plain, simple_turn, x_turn, digit_turn, end_turn}
use Rattle.mc_tokens.proofs.Turns.{took, ascii_turn}
use Rattle.mc_tokens.proofs.Escapes.{by_bytes}
use Rattle.laws_print.specs.Laws.{IsQuote}
use Rattle.mc_base.proofs.Booleans.{left_true, right_true}

-- from what stands here the walk comes to what stands there, n bytes on, and what is passed says
-- these bytes
pub record Passes (q start p : ℕ) (here there : List ℕ) (n : ℕ) (said : List ℕ) : Type 0 where
  pub walks : quote_walk q start Plain p here ≡ quote_walk q start Plain (p + n) there
  pub says_so : contents q Plain 0 here ≡ said ++ contents q Plain 0 there

-- a turn that goes on at the next byte
pub goes :
    (q start p b : ℕ) (m n : Quoting) (bs : List ℕ)
    → quote_turn q m p b bs ≡ Go n 0
    → quote_walk q start m p (b ∷ bs) ≡ quote_walk q start n (p + 1) bs
goes q start p b m n bs e = ap (took (quote_turn q) (λ m p. Faulty Unterminated start) p bs) e

pub said_so :
    (q b k : ℕ) (m n : Quoting) (bs : List ℕ)
    → quote_turn q m 0 b bs ≡ Go n k
    → contents q m 0 (b ∷ bs) ≡ says q m b bs ++ contents q n k bs
said_so q b k m n bs e =
    ap (λ t. elim t [ Go n past ↦ says q m b bs ++ contents q n past bs | Stop s ↦ [] ]) e

two :
    (q start p : ℕ) (ys : List ℕ)
    → quote_walk q start Plain (p + 1 + 1) ys ≡ quote_walk q start Plain (p + 2) ys
two q start p ys =
    let e : p + 1 + 1 ≡ p + 2 = omega arith in ap (λ n. quote_walk q start Plain n ys) e

backslash_says : (q : ℕ) (bs : List ℕ) → 92 ≢ q → says q Plain 92 bs ≡ []
backslash_says q bs n = no _ (ne_eqb 92 q n)

-- a backslash and one byte
simple :
    (q start p x c : ℕ) (ys : List ℕ)
    → 92 ≢ q → is_simple x ≡ true → x ≢ 10 → escaped x ≡ c
    → Passes q start p (92 ∷ x ∷ ys) ys 2 (c ∷ [])
simple q start p x c ys n s m e = record {
  walks = goes q start p 92 Plain (Backslash p) (x ∷ ys) (escaping q 0 p 92 (x ∷ ys) n refl)
      ∙ goes q start (p + 1) x (Backslash p) Plain ys (simple_turn q p (p + 1) x ys s) ∙ two q start
      p ys;
  says_so =
      said_so q 92 0 Plain (Backslash 0) (x ∷ ys) (escaping q 0 0 92 (x ∷ ys) n refl)
      ∙ ap (λ l. l ++ contents q (Backslash 0) 0 (x ∷ ys)) (backslash_says q (x ∷ ys) n)
      ∙ said_so q x 0 (Backslash 0) Plain ys (simple_turn q 0 0 x ys s)
      ∙ ap (λ l. l ++ contents q Plain 0 ys)
      (no [] (ne_eqb x 10 m) ∙ yes [] s ∙ ap (λ d. d ∷ []) e);
}

-- a hexadecimal digit of a number below 16 is a digit of base 16, with that value
digit_good : (d : ℕ) → d < 16 → is_digit_of 16 (digit_of d) && (hex_value (digit_of d) == d) ≡ true
digit_good d lt =
    by_bytes (λ d. nat_lt d 16) (λ d. is_digit_of 16 (digit_of d) && (hex_value (digit_of d) == d))
    tt d (omega arith) (lt-ltb d 16 lt)

five :
    (q start p : ℕ) (ys : List ℕ)
    → quote_walk q start Plain (p + 1 + 1 + 1 + 1 + 1) ys ≡ quote_walk q start Plain (p + 5) ys
five q start p ys =
    let e : p + 1 + 1 + 1 + 1 + 1 ≡ p + 5 = omega arith in ap (λ n. quote_walk q start Plain n ys) e

-- a control character by its number
control :
    (q start p c : ℕ) (ys : List ℕ)
    → 92 ≢ q → c < 128
    → Passes q start p (92 ∷ 120 ∷ digit_of (c / 16) ∷ digit_of (c % 16) ∷ 92 ∷ ys) ys 5 (c ∷ [])
unfolding encode
control q start p c ys n lt =
    let h1 = digit_of (c / 16) in
    let h2 = digit_of (c % 16) in
    let low1 : c / 16 < 16 = omega arith in
    let low2 : c % 16 < 16 = omega arith in
    let g1 = digit_good (c / 16) low1 in
    let g2 = digit_good (c % 16) low2 in
    let d1 = left_true (is_digit_of 16 h1) (hex_value h1 == c / 16) g1 in
    let d2 = left_true (is_digit_of 16 h2) (hex_value h2 == c % 16) g2 in
    let v1 : hex_value h1 ≡ c / 16 = eqb-true (hex_value h1) (c / 16) (right_true (is_digit_of 16 h1) (hex_value h1 == c / 16) g1) in
    let v2 : hex_value h2 ≡ c % 16 = eqb-true (hex_value h2) (c % 16) (right_true (is_digit_of 16 h2) (hex_value h2 == c % 16) g2) in
    let value = 16 * (16 * 0 + hex_value h1) + hex_value h2 in
    let is : value ≡ c = omega arith in
    let good : scalar value ≡ true = low_scalar value (omega arith) in
    let bs1 = h2 ∷ 92 ∷ ys in
    let bs0 = h1 ∷ bs1 in
    let one : encode value ≡ c ∷ [] = ap encode is ∙ yes _ (lt-ltb c 128 lt) in
    record {
      walks = goes q start p 92 Plain (Backslash p) (120 ∷ bs0) (escaping q 0 p 92 (120 ∷ bs0) n refl)
          ∙ goes q start (p + 1) 120 (Backslash p) (Digits p 16 0 false) bs0
          (x_turn q p (p + 1) 120 bs0 refl)
          ∙ goes q start (p + 1 + 1) h1 (Digits p 16 0 false)
          (Digits p 16 (16 * 0 + hex_value h1) true) bs1
          (digit_turn q p (p + 1 + 1) h1 bs1 16 0 false d1)
          ∙ goes q start (p + 1 + 1 + 1) h2 (Digits p 16 (16 * 0 + hex_value h1) true)
          (Digits p 16 value true) (92 ∷ ys)
          (digit_turn q p (p + 1 + 1 + 1) h2 (92 ∷ ys) 16 (16 * 0 + hex_value h1) true d2)
          ∙ goes q start (p + 1 + 1 + 1 + 1) 92 (Digits p 16 value true) Plain ys
          (end_turn q p (p + 1 + 1 + 1 + 1) 92 ys 16 value true refl refl refl good)
          ∙ five q start p ys;
      says_so =
          said_so q 92 0 Plain (Backslash 0) (120 ∷ bs0) (escaping q 0 0 92 (120 ∷ bs0) n refl)
          ∙ ap (λ l. l ++ contents q (Backslash 0) 0 (120 ∷ bs0)) (backslash_says q (120 ∷ bs0) n)
          ∙ said_so q 120 0 (Backslash 0) (Digits 0 16 0 false) bs0 (x_turn q 0 0 120 bs0 refl)
          ∙ said_so q h1 0 (Digits 0 16 0 false) (Digits 0 16 (16 * 0 + hex_value h1) true) bs1
          (digit_turn q 0 0 h1 bs1 16 0 false d1)
          ∙ ap (λ l. l ++ contents q (Digits 0 16 (16 * 0 + hex_value h1) true) 0 bs1) (yes _ d1)
          ∙ said_so q h2 0 (Digits 0 16 (16 * 0 + hex_value h1) true) (Digits 0 16 value true)
          (92 ∷ ys) (digit_turn q 0 0 h2 (92 ∷ ys) 16 (16 * 0 + hex_value h1) true d2)
          ∙ ap (λ l. l ++ contents q (Digits 0 16 value true) 0 (92 ∷ ys)) (yes _ d2)
          ∙ said_so q 92 0 (Digits 0 16 value true) Plain ys
          (end_turn q 0 0 92 ys 16 value true refl refl refl good)
          ∙ ap (λ l. l ++ contents q Plain 0 ys) one;
    }

-- a byte as it is
bare :
    (q start p c : ℕ) (ys : List ℕ)
    → c ≢ q → c ≢ 92 → c < 128 → Passes q start p (c ∷ ys) ys 1 (c ∷ [])
unfolding char_len len_of
bare q start p c ys n m lt =
    let len : char_len (c ∷ ys) ≡ 1 = yes _ (lt-ltb c 128 lt) in
    record {
      walks = goes q start p c Plain Plain ys (plain q 0 p c ys n m ∙ ascii_turn Plain p c ys lt);
      says_so =
          said_so q c 0 Plain Plain ys (plain q 0 0 c ys n m ∙ ascii_turn Plain 0 c ys lt)
          ∙ ap (λ l. l ++ contents q Plain 0 ys)
          (no _ (ne_eqb c q n) ∙ no _ (ne_eqb c 92 m) ∙ ap (λ k. take k (c ∷ ys)) len);
    }

pick :
    (t : Bool) (A B : List ℕ) (P : List ℕ → Type 0)
    → (t ≡ true → P A) → (t ≡ false → P B) → P (cond t A B)
pick true A B P yes_so no_so = yes_so refl
pick false A B P yes_so no_so = no_so refl

either : (a b : Bool) → a || b ≡ true → (a ≡ true) ⊎ (b ≡ true)
either true b h = inl refl
either false b h = inr h

neither_left : (a b : Bool) → a || b ≡ false → a ≡ false
neither_left true b h = cc
neither_left false b h = refl

neither_right : (a b : Bool) → a || b ≡ false → b ≡ false
neither_right true b h = cc
neither_right false b h = h

unequal : (m n : ℕ) → nat_eq m n ≡ false → m ≢ n
unequal m n e = eqb-false m n e

no_backslash : (q : ℕ) → IsQuote q → 92 ≢ q
no_backslash q is = ⊎_elim (λ e f. absurd (omega arith)) (λ e f. absurd (omega arith)) is

-- the quote in use, escaped
quote : (q start p : ℕ) (ys : List ℕ) → IsQuote q → Passes q start p (92 ∷ q ∷ ys) ys 2 (q ∷ [])
quote q start p ys is = ⊎_elim
    (λ e.
    subst (λ r. Passes r start p (92 ∷ r ∷ ys) ys 2 (r ∷ [])) (sym e)
    (simple 39 start p 39 39 ys (omega arith) refl (omega arith) refl))
    (λ e. subst (λ r. Passes r start p (92 ∷ r ∷ ys) ys 2 (r ∷ [])) (sym e) (simple 34 start p 34 34 ys (omega arith) refl (omega arith) refl)) is

-- a byte of ASCII as it is printed
pub byte :
    (q start p c : ℕ) (ys : List ℕ)
    → IsQuote q → c < 128
    → Passes q start p (printed_byte q c ++ ys) ys (length (printed_byte q c)) (c ∷ [])
byte q start p c ys is lt =
    let P : List ℕ → Type 0 = λ xs. Passes q start p (xs ++ ys) ys (length xs) (c ∷ []) in
    let n = no_backslash q is in
    pick (nat_eq c 92 || nat_eq c q) _ _ P
    (λ t. ⊎_elim
    (λ e.
    subst (λ d. Passes q start p (92 ∷ d ∷ ys) ys 2 (d ∷ [])) (sym (eqb-true c 92 e))
    (simple q start p 92 92 ys n refl (omega arith) refl))
    (λ e. subst (λ d. Passes q start p (92 ∷ d ∷ ys) ys 2 (d ∷ [])) (sym (eqb-true c q e)) (quote q start p ys is)) (either (nat_eq c 92) (nat_eq c q) t))
    (λ f1. pick (nat_eq c 10) _ _ P
    (λ t.
    subst (λ d. Passes q start p (92 ∷ 110 ∷ ys) ys 2 (d ∷ [])) (sym (eqb-true c 10 t))
    (simple q start p 110 10 ys n refl (omega arith) refl))
    (λ f2. pick (nat_eq c 9) _ _ P
    (λ t.
    subst (λ d. Passes q start p (92 ∷ 116 ∷ ys) ys 2 (d ∷ [])) (sym (eqb-true c 9 t))
    (simple q start p 116 9 ys n refl (omega arith) refl))
    (λ f3. pick (nat_lt c 32 || nat_eq c 127) _ _ P
    (λ t. control q start p c ys n lt)
    (λ f4. bare q start p c ys (unequal c q (neither_right (nat_eq c 92) (nat_eq c q) f1)) (unequal c 92 (neither_left (nat_eq c 92) (nat_eq c q) f1)) lt))))
