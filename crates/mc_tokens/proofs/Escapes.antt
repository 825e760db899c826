-- Escapes: the walk through one, and what it says.
use Rattle.std.proofs.Common.{◌≡◌, ℕ, zero, suc, ◌+◌, ◌-◌, ◌*◌, ◌<◌, ◌≤◌, min, Bool, true, false, cond, not, List, [], ◌∷◌, ◌++◌, length, get_or, drop, refl, sym, ap, ◌∙◌, ⊎_elim, Some, None, zero-add, arith, encode_utf8}
use Rattle.std.specs.Prelude.{◌==◌, ◌&&◌, ◌||◌, ◌≢◌, nat_lt, Option}
use lib.Utf8.{scalar, scalar_cases}
use lib.Dec.{T}
use Rattle.std.proofs.lemmas.Bool.{eqb-true}
use Rattle.std.proofs.lemmas.List.{drop_all}
use Rattle.mc_tokens.specs.Classes.{hex_digit, hex_value, is_digit_of}
use Rattle.mc_tokens.specs.Spots.{Spot, Faulty, Quoting, Plain, Backslash, Digits, Exact, is_simple, unescaped}
use Rattle.mc_tokens.specs.Contents.{contents, says, escaped}
use Rattle.std.specs.Prelude.{Result, Ok, Err}
use Rattle.std.proofs.Math.Nat.{mul-le-mul_left, mul-le-mul_right}
use Rattle.std.proofs.str.Laws.{order}
use Rattle.mc_tokens.specs.declared.quoting.Escape.{Escape}
use Rattle.mc_tokens.specs.declared.quoting.Halt.{Halt}
use Rattle.mc_tokens.specs.declared.quoting.Halt.TheVariants.{Bad}
use Rattle.mc_tokens.specs.code.Walks.{quote_walk, escape_goes_on, escape_contents}
use Rattle.mc_tokens.specs.declared.token.FaultKind.TheVariants.{BadChar}
use Rattle.mc_tokens.proofs.CharLen.{drop-at}
use Rattle.mc_tokens.proofs.Lanes.{each_below, each_below_at}
use Rattle.mc_tokens.proofs.Quotes.{yes, no, on, halts, adds, simple_turn, x_turn, u_turn, long_turn, octal_turn, no_turn, digit_turn, end_turn, no_end_turn, more_turn, last_turn, bad_turn, no_digit_turn, nothing_more, scalar_cut}
use Rattle.mc_base.proofs.Booleans.{left_true, right_true}

-- an option by a test
pub some_if : {A : Type 0} (t : Bool) (v w : A) → Some w ≡ cond t (Some v) None → (t ≡ true) × (w ≡ v)
some_if true v w h = (refl, cc)
some_if false v w h = cc

pub none_if : {A : Type 0} (t : Bool) (v : A) → let no_value : Option A = None in no_value ≡ cond t (Some v) None → t ≡ false
none_if true v h = cc
none_if false v h = refl

-- a scalar value isn't cut
pub scalar_same : (v : ℕ) → scalar v ≡ true → min v 1114112 ≡ v
scalar_same v e = ⊎_elim (λ lt. omega arith) (λ p. omega (arith, p.1)) (scalar_cases v e)

-- a cut value may be cut again with the next digit
pub cut_step : (base v d limit : ℕ) → min (base * min v limit + d) limit ≡ min (base * v + d) limit
cut_step zero v d limit = let e : 0 * min v limit ≡ 0 * v = omega arith in ap (λ w. min (w + d) limit) e
cut_step (suc k) v d limit =
    ⊎_elim (λ lt. let e : min v limit ≡ v = omega arith in ap (λ w. min (suc k * w + d) limit) e)
    (λ le. let e : min v limit ≡ limit = omega arith in
    let low : 1 * limit ≤ suc k * limit = mul-le-mul_right limit (omega arith) in
    let high : suc k * limit ≤ suc k * v = mul-le-mul_left (suc k) le in
    ap (λ w. min (suc k * w + d) limit) e ∙ above (suc k * limit + d) (suc k * v + d) (omega (arith, low)) (omega (arith, low, high)))
    (order v limit)
  where
    above : (m n : ℕ) → limit ≤ m → limit ≤ n → min m limit ≡ min n limit
    above m n a b = omega arith

-- facts on single bytes, by computing them for each
either : (a b : Bool) → T (not a || b) → a ≡ true → b ≡ true
either true true h e = refl
either true false h e = absurd h
either false b h e = cc

pub by_bytes : (p q : ℕ → Bool) → T (each_below (λ x. not (p x) || q x) 256) → (x : ℕ) → x < 256 → p x ≡ true → q x ≡ true
by_bytes p q h x l e = either (p x) (q x) (each_below_at (λ y. not (p y) || q y) 256 h x l) e

pub escaped_small : (x : ℕ) → x < 256 → is_simple x ≡ true → nat_lt (escaped x) 128 ≡ true
escaped_small = by_bytes is_simple (λ x. nat_lt (escaped x) 128) tt

module _ (q start s i : ℕ) (text : List ℕ) (h : i < length text) where
  abbrev b : ℕ
  b = get_or text i 0

  abbrev bs : List ℕ
  bs = drop (i + 1) text

  here : (w : List ℕ → Spot) → w (b ∷ bs) ≡ w (drop i text)
  here w = ap w (sym (drop-at text i h))

  -- a letter or a mark after the backslash
  pub simple_walk : is_simple b ≡ true → quote_walk q start (Backslash s) i (drop i text) ≡ quote_walk q start Plain (i + 1) (drop (i + 1) text)
  simple_walk e = on q start (Backslash s) i text h Plain 0 (i + 1) (simple_turn q s i b bs e) (omega arith) (omega arith)

  pub line_says : b ≡ 10 → contents q (Backslash 0) 0 (drop i text) ≡ contents q Plain 0 (drop (i + 1) text)
  line_says e =
      adds q (Backslash 0) i text h Plain 0 (i + 1) (simple_turn q 0 0 b bs (ap is_simple e)) (omega arith) (omega arith)
      ∙ ap (λ (c : ℕ). says q (Backslash 0) c bs ++ contents q Plain 0 (drop (i + 1) text)) e

  pub simple_says : is_simple b ≡ true → b ≢ 10 → contents q (Backslash 0) 0 (drop i text) ≡ (escaped b ∷ []) ++ contents q Plain 0 (drop (i + 1) text)
  simple_says e n =
      adds q (Backslash 0) i text h Plain 0 (i + 1) (simple_turn q 0 0 b bs e) (omega arith) (omega arith)
      ∙ ap (λ l. l ++ contents q Plain 0 (drop (i + 1) text)) (no _ (ne_ten b n) ∙ yes _ e)
    where
      ne_ten : (x : ℕ) → x ≢ 10 → (x == 10) ≡ false
      ne_ten x n = go (x == 10) refl
        where
          go : (t : Bool) → (x == 10) ≡ t → t ≡ false
          go true f = absurd (n (eqb-true x 10 f))
          go false f = refl

  -- x, u and U
  pub x_walk : b ≡ 120 → quote_walk q start (Backslash s) i (drop i text) ≡ quote_walk q start (Digits s 16 0 false) (i + 1) (drop (i + 1) text)
  x_walk e = on q start (Backslash s) i text h (Digits s 16 0 false) 0 (i + 1) (x_turn q s i b bs e) (omega arith) (omega arith)

  pub x_says : b ≡ 120 → contents q (Backslash 0) 0 (drop i text) ≡ contents q (Digits 0 16 0 false) 0 (drop (i + 1) text)
  x_says e =
      adds q (Backslash 0) i text h (Digits 0 16 0 false) 0 (i + 1) (x_turn q 0 0 b bs e) (omega arith) (omega arith)
      ∙ ap (λ (c : ℕ). says q (Backslash 0) c bs ++ contents q (Digits 0 16 0 false) 0 (drop (i + 1) text)) e

  pub u_walk : b ≡ 117 → quote_walk q start (Backslash s) i (drop i text) ≡ quote_walk q start (Exact s 3 0) (i + 1) (drop (i + 1) text)
  u_walk e = on q start (Backslash s) i text h (Exact s 3 0) 0 (i + 1) (u_turn q s i b bs e) (omega arith) (omega arith)

  pub u_says : b ≡ 117 → contents q (Backslash 0) 0 (drop i text) ≡ contents q (Exact 0 3 0) 0 (drop (i + 1) text)
  u_says e =
      adds q (Backslash 0) i text h (Exact 0 3 0) 0 (i + 1) (u_turn q 0 0 b bs e) (omega arith) (omega arith)
      ∙ ap (λ (c : ℕ). says q (Backslash 0) c bs ++ contents q (Exact 0 3 0) 0 (drop (i + 1) text)) e

  pub long_walk : b ≡ 85 → quote_walk q start (Backslash s) i (drop i text) ≡ quote_walk q start (Exact s 7 0) (i + 1) (drop (i + 1) text)
  long_walk e = on q start (Backslash s) i text h (Exact s 7 0) 0 (i + 1) (long_turn q s i b bs e) (omega arith) (omega arith)

  pub long_says : b ≡ 85 → contents q (Backslash 0) 0 (drop i text) ≡ contents q (Exact 0 7 0) 0 (drop (i + 1) text)
  long_says e =
      adds q (Backslash 0) i text h (Exact 0 7 0) 0 (i + 1) (long_turn q 0 0 b bs e) (omega arith) (omega arith)
      ∙ ap (λ (c : ℕ). says q (Backslash 0) c bs ++ contents q (Exact 0 7 0) 0 (drop (i + 1) text)) e

  pub no_walk : is_simple b ≡ false → b ≢ 120 → is_digit_of 8 b ≡ false → b ≢ 117 → b ≢ 85 → quote_walk q start (Backslash s) i (drop i text) ≡ unescaped s i (drop i text)
  no_walk e n d m k = halts q start (Backslash s) i text h (unescaped s i (b ∷ bs)) (no_turn q s i b bs e n d m k) ∙ here (unescaped s i)

  pub no_says : is_simple b ≡ false → b ≢ 120 → is_digit_of 8 b ≡ false → b ≢ 117 → b ≢ 85 → contents q (Backslash 0) 0 (drop i text) ≡ []
  no_says e n d m k = nothing_more q (Backslash 0) i text h (unescaped 0 0 (b ∷ bs)) (no_turn q 0 0 b bs e n d m k)

  -- digits before a closing backslash
  module _ (base v : ℕ) (some : Bool) where
    abbrev next : ℕ
    next = base * v + hex_value b

    pub digit_walk : is_digit_of base b ≡ true → quote_walk q start (Digits s base v some) i (drop i text) ≡ quote_walk q start (Digits s base next true) (i + 1) (drop (i + 1) text)
    digit_walk e = on q start (Digits s base v some) i text h (Digits s base next true) 0 (i + 1) (digit_turn q s i b bs base v some e) (omega arith) (omega arith)

    pub digit_says : is_digit_of base b ≡ true → contents q (Digits 0 base v some) 0 (drop i text) ≡ contents q (Digits 0 base next true) 0 (drop (i + 1) text)
    digit_says e =
        adds q (Digits 0 base v some) i text h (Digits 0 base next true) 0 (i + 1) (digit_turn q 0 0 b bs base v some e) (omega arith) (omega arith)
        ∙ ap (λ l. l ++ contents q (Digits 0 base next true) 0 (drop (i + 1) text)) (yes (encode_utf8 v) e)

    pub end_walk : is_digit_of base b ≡ false → ((b == 92) && (some && scalar v)) ≡ true → quote_walk q start (Digits s base v some) i (drop i text) ≡ quote_walk q start Plain (i + 1) (drop (i + 1) text)
    end_walk d t =
        let u = right_true (b == 92) (some && scalar v) t in
        on q start (Digits s base v some) i text h Plain 0 (i + 1) (end_turn q s i b bs base v some d (eqb-true b 92 (left_true (b == 92) _ t)) (left_true some (scalar v) u) (right_true some (scalar v) u)) (omega arith) (omega arith)

    pub end_says : is_digit_of base b ≡ false → ((b == 92) && (some && scalar v)) ≡ true → contents q (Digits 0 base v some) 0 (drop i text) ≡ encode_utf8 v ++ contents q Plain 0 (drop (i + 1) text)
    end_says d t =
        let u = right_true (b == 92) (some && scalar v) t in
        adds q (Digits 0 base v some) i text h Plain 0 (i + 1) (end_turn q 0 0 b bs base v some d (eqb-true b 92 (left_true (b == 92) _ t)) (left_true some (scalar v) u) (right_true some (scalar v) u)) (omega arith) (omega arith)
        ∙ ap (λ l. l ++ contents q Plain 0 (drop (i + 1) text)) (no [] d)

    pub no_end_walk : is_digit_of base b ≡ false → ((b == 92) && (some && scalar v)) ≡ false → quote_walk q start (Digits s base v some) i (drop i text) ≡ unescaped s i (drop i text)
    no_end_walk d t = halts q start (Digits s base v some) i text h (unescaped s i (b ∷ bs)) (no_end_turn q s i b bs base v some d t) ∙ here (unescaped s i)

    pub no_end_says : is_digit_of base b ≡ false → ((b == 92) && (some && scalar v)) ≡ false → contents q (Digits 0 base v some) 0 (drop i text) ≡ []
    no_end_says d t = nothing_more q (Digits 0 base v some) i text h (unescaped 0 0 (b ∷ bs)) (no_end_turn q 0 0 b bs base v some d t)

  -- an octal digit right after the backslash
  pub octal_walk : is_simple b ≡ false → b ≢ 120 → is_digit_of 8 b ≡ true → quote_walk q start (Backslash s) i (drop i text) ≡ quote_walk q start (Digits s 8 0 false) i (drop i text)
  octal_walk e n d =
      on q start (Backslash s) i text h (Digits s 8 (hex_value b) true) 0 (i + 1) (octal_turn q s i b bs e n d) (omega arith) (omega arith)
      ∙ ap (λ v. quote_walk q start (Digits s 8 v true) (i + 1) (drop (i + 1) text)) (sym (zero-add (hex_value b)))
      ∙ sym (digit_walk 8 0 false d)

  pub octal_says : is_simple b ≡ false → b ≢ 120 → is_digit_of 8 b ≡ true → contents q (Backslash 0) 0 (drop i text) ≡ contents q (Digits 0 8 0 false) 0 (drop i text)
  octal_says e n d =
      adds q (Backslash 0) i text h (Digits 0 8 (hex_value b) true) 0 (i + 1) (octal_turn q 0 0 b bs e n d) (omega arith) (omega arith)
      ∙ ap (λ l. l ++ contents q (Digits 0 8 (hex_value b) true) 0 (drop (i + 1) text)) (nothing b e)
      ∙ ap (λ v. contents q (Digits 0 8 v true) 0 (drop (i + 1) text)) (sym (zero-add (hex_value b)))
      ∙ sym (digit_says 8 0 false d)
    where
      nothing : (x : ℕ) → is_simple x ≡ false → says q (Backslash 0) x bs ≡ []
      nothing x e = go (x == 10) (is_simple x) e
        where
          go : (t u : Bool) → u ≡ false → cond t [] (cond u (escaped x ∷ []) []) ≡ []
          go true u f = refl
          go false true f = cc
          go false false f = refl

  -- a fixed number of digits
  module _ (more v : ℕ) where
    abbrev last : ℕ
    last = 16 * v + hex_value b

    pub more_walk : hex_digit b ≡ true → 0 < more → quote_walk q start (Exact s more v) i (drop i text) ≡ quote_walk q start (Exact s (more - 1) last) (i + 1) (drop (i + 1) text)
    more_walk e l = on q start (Exact s more v) i text h (Exact s (more - 1) last) 0 (i + 1) (more_turn q s i b bs more v e l) (omega arith) (omega arith)

    pub more_says : hex_digit b ≡ true → 0 < more → contents q (Exact 0 more v) 0 (drop i text) ≡ contents q (Exact 0 (more - 1) last) 0 (drop (i + 1) text)
    more_says e l =
        adds q (Exact 0 more v) i text h (Exact 0 (more - 1) last) 0 (i + 1) (more_turn q 0 0 b bs more v e l) (omega arith) (omega arith)
        ∙ ap (λ l. l ++ contents q (Exact 0 (more - 1) last) 0 (drop (i + 1) text)) (silent more l)
      where
        silent : (m : ℕ) → 0 < m → says q (Exact 0 m v) b bs ≡ []
        silent zero l = absurd (omega arith)
        silent (suc m) l = refl

    pub last_walk : hex_digit b ≡ true → more ≡ 0 → scalar last ≡ true → quote_walk q start (Exact s more v) i (drop i text) ≡ quote_walk q start Plain (i + 1) (drop (i + 1) text)
    last_walk e z c = on q start (Exact s more v) i text h Plain 0 (i + 1) (last_turn q s i b bs more v e z c) (omega arith) (omega arith)

    pub last_says : hex_digit b ≡ true → more ≡ 0 → scalar last ≡ true → contents q (Exact 0 more v) 0 (drop i text) ≡ encode_utf8 last ++ contents q Plain 0 (drop (i + 1) text)
    last_says e z c =
        adds q (Exact 0 more v) i text h Plain 0 (i + 1) (last_turn q 0 0 b bs more v e z c) (omega arith) (omega arith)
        ∙ ap (λ (m : ℕ). says q (Exact 0 m v) b bs ++ contents q Plain 0 (drop (i + 1) text)) z

    pub bad_walk : hex_digit b ≡ true → more ≡ 0 → scalar last ≡ false → quote_walk q start (Exact s more v) i (drop i text) ≡ Faulty BadChar s
    bad_walk e z c = halts q start (Exact s more v) i text h (Faulty BadChar s) (bad_turn q s i b bs more v e z c)

    pub no_digit_walk : hex_digit b ≡ false → quote_walk q start (Exact s more v) i (drop i text) ≡ unescaped s i (drop i text)
    no_digit_walk e = halts q start (Exact s more v) i text h (unescaped s i (b ∷ bs)) (no_digit_turn q s i b bs more v e) ∙ here (unescaped s i)

    -- after the last digit, whose value may be cut
    abbrev ending : ℕ → Result Escape Halt
    ending w = cond (scalar w) (Ok (record { next = i + 1; says = Some w })) (Err (Bad (record { kind = BadChar; at = s })))

    pub exact_walk : hex_digit b ≡ true → more ≡ 0 → (w : ℕ) → w ≡ min last 1114112 → quote_walk q start (Exact s more v) i (drop i text) ≡ escape_goes_on q start text (ending w)
    exact_walk e z w f = go (scalar last) refl
      where
        go : (t : Bool) → scalar last ≡ t → quote_walk q start (Exact s more v) i (drop i text) ≡ escape_goes_on q start text (ending w)
        go true g = last_walk e z g ∙ sym (ap (escape_goes_on q start text) (yes (Err (Bad (record { kind = BadChar; at = s }))) (ap scalar f ∙ scalar_cut last ∙ g)))
        go false g = bad_walk e z g ∙ sym (ap (escape_goes_on q start text) (no (Ok (record { next = i + 1; says = Some w })) (ap scalar f ∙ scalar_cut last ∙ g)))

    pub exact_says : hex_digit b ≡ true → more ≡ 0 → (w : ℕ) → w ≡ min last 1114112 → contents q (Exact 0 more v) 0 (drop i text) ≡ escape_contents q text (ending w)
    exact_says e z w f = go (scalar last) refl
      where
        go : (t : Bool) → scalar last ≡ t → contents q (Exact 0 more v) 0 (drop i text) ≡ escape_contents q text (ending w)
        go true g =
            last_says e z g ∙ ap (λ c. encode_utf8 c ++ contents q Plain 0 (drop (i + 1) text)) (sym (f ∙ scalar_same last g))
            ∙ sym (ap (escape_contents q text) (yes (Err (Bad (record { kind = BadChar; at = s }))) (ap scalar f ∙ scalar_cut last ∙ g)))
        go false g =
            nothing_more q (Exact 0 more v) i text h (Faulty BadChar 0) (bad_turn q 0 0 b bs more v e z g)
            ∙ sym (ap (escape_contents q text) (no (Ok (record { next = i + 1; says = Some w })) (ap scalar f ∙ scalar_cut last ∙ g)))

    pub no_digit_says : hex_digit b ≡ false → contents q (Exact 0 more v) 0 (drop i text) ≡ []
    no_digit_says e = nothing_more q (Exact 0 more v) i text h (unescaped 0 0 (b ∷ bs)) (no_digit_turn q 0 0 b bs more v e)

-- at the text's end nothing more is said
pub nothing_said : (q : ℕ) (m : Quoting) (i : ℕ) (text : List ℕ) → length text ≤ i → contents q m 0 (drop i text) ≡ []
nothing_said q m i text l = ap (contents q m 0) (drop_all i text l)

module _ (q start s i : ℕ) (text : List ℕ) (h : i < length text) where
  abbrev byte : ℕ
  byte = get_or text i 0

  abbrev rest : List ℕ
  rest = drop (i + 1) text

  -- at a byte that is no digit a value may be cut
  module _ (base v : ℕ) (some : Bool) (d : is_digit_of base byte ≡ false) where
    cut_end : ((byte == 92) && (some && scalar (min v 1114112))) ≡ ((byte == 92) && (some && scalar v))
    cut_end = ap (λ t. (byte == 92) && (some && t)) (scalar_cut v)

    pub cut_walk : quote_walk q start (Digits s base v some) i (drop i text) ≡ quote_walk q start (Digits s base (min v 1114112) some) i (drop i text)
    cut_walk = go ((byte == 92) && (some && scalar v)) refl
      where
        go : (t : Bool) → ((byte == 92) && (some && scalar v)) ≡ t → quote_walk q start (Digits s base v some) i (drop i text) ≡ quote_walk q start (Digits s base (min v 1114112) some) i (drop i text)
        go true e = end_walk q start s i text h base v some d e ∙ sym (end_walk q start s i text h base (min v 1114112) some d (cut_end ∙ e))
        go false e = no_end_walk q start s i text h base v some d e ∙ sym (no_end_walk q start s i text h base (min v 1114112) some d (cut_end ∙ e))

    pub cut_says : contents q (Digits 0 base v some) 0 (drop i text) ≡ contents q (Digits 0 base (min v 1114112) some) 0 (drop i text)
    cut_says = go ((byte == 92) && (some && scalar v)) refl
      where
        go : (t : Bool) → ((byte == 92) && (some && scalar v)) ≡ t → contents q (Digits 0 base v some) 0 (drop i text) ≡ contents q (Digits 0 base (min v 1114112) some) 0 (drop i text)
        go true e =
            let c = right_true some (scalar v) (right_true (byte == 92) (some && scalar v) e) in
            end_says q start s i text h base v some d e ∙ ap (λ c. encode_utf8 c ++ contents q Plain 0 (drop (i + 1) text)) (sym (scalar_same v c)) ∙ sym (end_says q start s i text h base (min v 1114112) some d (cut_end ∙ e))
        go false e = no_end_says q start s i text h base v some d e ∙ sym (no_end_says q start s i text h base (min v 1114112) some d (cut_end ∙ e))
