-- The walk inside quotes, turn by turn.
use Rattle.std.proofs.Common.{◌≡◌, ℕ, zero, suc, ◌+◌, ◌-◌, ◌*◌, ◌<◌, ◌≤◌, min, Bool, true, false, cond, leb, ltb, List, [], ◌∷◌, ◌++◌, length, get_or, drop, refl, sym, ap, ap₂, ◌∙◌, ⊎_elim, add-zero, arith}
use Rattle.std.specs.Prelude.{◌==◌, ◌&&◌, ◌≢◌}
use lib.Utf8.{scalar}
use Rattle.std.proofs.str.Laws.{order}
use Rattle.std.proofs.lemmas.List.{get_or-drop, drop-drop, length-drop}
use Rattle.std.proofs.lemmas.Bool.{ne_eqb, eq-eqb, le-ltb, le-leb}
use Rattle.mc_tokens.specs.Classes.{hex_digit, hex_value, is_digit_of}
use Rattle.mc_tokens.specs.Utf8.{at, char_len}
use Rattle.mc_tokens.specs.Spots.{Spot, At, Faulty, Turn, Go, Stop, char_turn, Quoting, Plain, Backslash, Digits, Exact, quote_turn, exact_turn, is_simple, unescaped}
use Rattle.mc_tokens.specs.Contents.{says, contents}
use Rattle.mc_tokens.specs.code.Walks.{quote_walk}
use Rattle.mc_tokens.specs.declared.token.FaultKind.TheVariants.{NotUtf8, Unterminated, BadChar}
use Rattle.mc_tokens.proofs.CharLen.{drop-at}
use Rattle.mc_tokens.proofs.Turns.{went, stopped, ended, by_char, by_bad}

pub yes : {A : Type 0} {t : Bool} {x : A} (y : A) → t ≡ true → cond t x y ≡ x
yes {x = x} y e = ap (λ t. cond t x y) e

pub no : {A : Type 0} {t : Bool} (x : A) {y : A} → t ≡ false → cond t x y ≡ y
no x {y = y} e = ap (λ t. cond t x y) e

pub next_is : (i : ℕ) (text : List ℕ) → at (drop (i + 1) text) 0 ≡ get_or text (i + 1) 0
next_is i text = get_or-drop (i + 1) text 0 0 ∙ ap (λ k. get_or text k 0) (add-zero (i + 1))

-- The turns. s is the backslash of an escape, p the place of the byte b, and bs what stands after
-- it.
module _ (q s p b : ℕ) (bs : List ℕ) where
  pub closing : b ≡ q → at bs 0 ≢ q → quote_turn q Plain p b bs ≡ Stop (At (p + 1))
  unfolding quote_turn
  closing e n = yes _ (eq-eqb _ q e) ∙ no _ (ne_eqb _ q n)

  pub doubling : b ≡ q → at bs 0 ≡ q → quote_turn q Plain p b bs ≡ Go Plain 1
  unfolding quote_turn
  doubling e f = yes _ (eq-eqb _ q e) ∙ yes _ (eq-eqb _ q f)

  pub escaping : b ≢ q → b ≡ 92 → quote_turn q Plain p b bs ≡ Go (Backslash p) 0
  unfolding quote_turn
  escaping n e = no _ (ne_eqb _ q n) ∙ yes _ (eq-eqb _ 92 e)

  pub plain : b ≢ q → b ≢ 92 → quote_turn q Plain p b bs ≡ char_turn Plain p b bs
  unfolding quote_turn
  plain n m = no _ (ne_eqb _ q n) ∙ no _ (ne_eqb _ 92 m)

  pub simple_turn : is_simple b ≡ true → quote_turn q (Backslash s) p b bs ≡ Go Plain 0
  unfolding quote_turn
  simple_turn e = yes _ e

  pub x_turn : b ≡ 120 → quote_turn q (Backslash s) p b bs ≡ Go (Digits s 16 0 false) 0
  unfolding quote_turn
  x_turn e = ap (λ (c : ℕ). quote_turn q (Backslash s) p c bs) e

  pub u_turn : b ≡ 117 → quote_turn q (Backslash s) p b bs ≡ Go (Exact s 3 0) 0
  unfolding quote_turn
  u_turn e = ap (λ (c : ℕ). quote_turn q (Backslash s) p c bs) e

  pub long_turn : b ≡ 85 → quote_turn q (Backslash s) p b bs ≡ Go (Exact s 7 0) 0
  unfolding quote_turn
  long_turn e = ap (λ (c : ℕ). quote_turn q (Backslash s) p c bs) e

  pub octal_turn : is_simple b ≡ false → b ≢ 120 → is_digit_of 8 b ≡ true → quote_turn q (Backslash s) p b bs ≡ Go (Digits s 8 (hex_value b) true) 0
  unfolding quote_turn
  octal_turn e n d = no _ e ∙ no _ (ne_eqb _ 120 n) ∙ yes _ d

  pub no_turn : is_simple b ≡ false → b ≢ 120 → is_digit_of 8 b ≡ false → b ≢ 117 → b ≢ 85 → quote_turn q (Backslash s) p b bs ≡ Stop (unescaped s p (b ∷ bs))
  unfolding quote_turn
  no_turn e n d m k = no _ e ∙ no _ (ne_eqb _ 120 n) ∙ no _ d ∙ no _ (ne_eqb _ 117 m) ∙ no _ (ne_eqb _ 85 k)

  module _ (base v : ℕ) (some : Bool) where
    pub digit_turn : is_digit_of base b ≡ true → quote_turn q (Digits s base v some) p b bs ≡ Go (Digits s base (base * v + hex_value b) true) 0
    unfolding quote_turn
    digit_turn e = yes _ e

    pub end_turn : is_digit_of base b ≡ false → b ≡ 92 → some ≡ true → scalar v ≡ true → quote_turn q (Digits s base v some) p b bs ≡ Go Plain 0
    unfolding quote_turn
    end_turn d e f g = no _ d ∙ yes _ (ap₂ (λ x y. x && y) (eq-eqb _ 92 e) (ap₂ (λ x y. x && y) f g))

    pub no_end_turn : is_digit_of base b ≡ false → ((b == 92) && (some && scalar v)) ≡ false → quote_turn q (Digits s base v some) p b bs ≡ Stop (unescaped s p (b ∷ bs))
    unfolding quote_turn
    no_end_turn d e = no _ d ∙ no _ e

  module _ (more v : ℕ) where
    exact_is : hex_digit b ≡ true → quote_turn q (Exact s more v) p b bs ≡ exact_turn s more (16 * v + hex_value b)
    unfolding quote_turn
    exact_is e = yes _ e

    pub more_turn : hex_digit b ≡ true → 0 < more → quote_turn q (Exact s more v) p b bs ≡ Go (Exact s (more - 1) (16 * v + hex_value b)) 0
    more_turn e h = exact_is e ∙ go more h (16 * v + hex_value b)
      where
        go : (m : ℕ) → 0 < m → (w : ℕ) → exact_turn s m w ≡ Go (Exact s (m - 1) w) 0
        go zero l w = absurd (omega arith)
        go (suc m) l w = let e : m ≡ suc m - 1 = omega arith in ap (λ k. Go (Exact s k w) 0) e

    pub last_turn : hex_digit b ≡ true → more ≡ 0 → scalar (16 * v + hex_value b) ≡ true → quote_turn q (Exact s more v) p b bs ≡ Go Plain 0
    last_turn e z c = exact_is e ∙ ap (λ m. exact_turn s m (16 * v + hex_value b)) z ∙ yes _ c

    pub bad_turn : hex_digit b ≡ true → more ≡ 0 → scalar (16 * v + hex_value b) ≡ false → quote_turn q (Exact s more v) p b bs ≡ Stop (Faulty BadChar s)
    bad_turn e z c = exact_is e ∙ ap (λ m. exact_turn s m (16 * v + hex_value b)) z ∙ no _ c

    pub no_digit_turn : hex_digit b ≡ false → quote_turn q (Exact s more v) p b bs ≡ Stop (unescaped s p (b ∷ bs))
    unfolding quote_turn
    no_digit_turn e = no _ e

-- The walk and what it says, from a place of the text.
module _ (q start : ℕ) where
  abbrev fails : Quoting → ℕ → Spot
  fails m p = Faulty Unterminated start

  pub out : (m : Quoting) (i : ℕ) (text : List ℕ) → length text ≤ i → i ≤ length text → quote_walk q start m i (drop i text) ≡ Faulty Unterminated start
  out m i text h k = ended (quote_turn q) fails m i text (omega arith)

  pub on : (m : Quoting) (i : ℕ) (text : List ℕ) → i < length text → (n : Quoting) (k j : ℕ) → quote_turn q m i (get_or text i 0) (drop (i + 1) text) ≡ Go n k → i + 1 + k ≡ j → j ≤ length text → quote_walk q start m i (drop i text) ≡ quote_walk q start n j (drop j text)
  on m i text h n k j = went (quote_turn q) fails m i text h n k j

  pub halts : (m : Quoting) (i : ℕ) (text : List ℕ) → i < length text → (s : Spot) → quote_turn q m i (get_or text i 0) (drop (i + 1) text) ≡ Stop s → quote_walk q start m i (drop i text) ≡ s
  halts m i text h s = stopped (quote_turn q) fails m i text h s

  pub plain_char : (i n j : ℕ) (text : List ℕ) → i < length text → get_or text i 0 ≢ q → get_or text i 0 ≢ 92 → n ≡ char_len (drop i text) → 0 < n → i + n ≡ j → j ≤ length text → quote_walk q start Plain i (drop i text) ≡ quote_walk q start Plain j (drop j text)
  plain_char i n j text h a b = by_char (quote_turn q) fails Plain i n j text h (plain q 0 i _ _ a b)

  pub plain_bad : (i n : ℕ) (text : List ℕ) → i < length text → get_or text i 0 ≢ q → get_or text i 0 ≢ 92 → n ≡ char_len (drop i text) → n ≡ 0 → quote_walk q start Plain i (drop i text) ≡ Faulty NotUtf8 i
  plain_bad i n text h a b = by_bad (quote_turn q) fails Plain i n text h (plain q 0 i _ _ a b)

module _ (q : ℕ) where
  contents_passed : (m : Quoting) (k : ℕ) (bs : List ℕ) → k ≤ length bs → contents q m k bs ≡ contents q m 0 (drop k bs)
  contents_passed m zero bs h = refl
  contents_passed m (suc k) [] h = absurd (omega arith)
  contents_passed m (suc k) (b ∷ bs) h = contents_passed m k bs (omega arith)

  abbrev took : List ℕ → List ℕ → Turn Quoting → List ℕ
  took said bs t = elim t [ Go n past ↦ said ++ contents q n past bs | Stop s ↦ [] ]

  pub adds : (m : Quoting) (i : ℕ) (text : List ℕ) → i < length text → (n : Quoting) (k j : ℕ) → quote_turn q m 0 (get_or text i 0) (drop (i + 1) text) ≡ Go n k → i + 1 + k ≡ j → j ≤ length text
      → contents q m 0 (drop i text) ≡ says q m (get_or text i 0) (drop (i + 1) text) ++ contents q n 0 (drop j text)
  adds m i text h n k j e s l =
      let said = says q m (get_or text i 0) (drop (i + 1) text) in
      ap (contents q m 0) (drop-at text i h) ∙ ap (took said (drop (i + 1) text)) e
      ∙ ap (λ r. said ++ r) (contents_passed n k (drop (i + 1) text) (omega (arith, length-drop (i + 1) text)) ∙ ap (contents q n 0) (drop-drop k (i + 1) text) ∙ ap (λ j. contents q n 0 (drop j text)) s)

  pub nothing_more : (m : Quoting) (i : ℕ) (text : List ℕ) → i < length text → (s : Spot) → quote_turn q m 0 (get_or text i 0) (drop (i + 1) text) ≡ Stop s → contents q m 0 (drop i text) ≡ []
  nothing_more m i text h s e = ap (contents q m 0) (drop-at text i h) ∙ ap (took (says q m (get_or text i 0) (drop (i + 1) text)) (drop (i + 1) text)) e

-- a value past the last scalar may be cut to one past it
pub scalar_cut : (v : ℕ) → scalar (min v 1114112) ≡ scalar v
scalar_cut v = ⊎_elim (λ lt. let e : min v 1114112 ≡ v = omega arith in ap scalar e) (λ le. let e : min v 1114112 ≡ 1114112 = omega arith in ap scalar e ∙ sym (large v le)) (order v 1114112)
  where
    large : (v : ℕ) → 1114112 ≤ v → scalar v ≡ false
    large v h = let a : ltb v 55296 ≡ false = le-ltb v 55296 (omega arith) in let b : ltb v 1114112 ≡ false = le-ltb v 1114112 (omega arith) in let c : leb 57344 v ≡ true = le-leb 57344 v (omega arith) in rw (a, b, c) refl
