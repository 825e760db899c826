-- What the walk inside quotes says is UTF-8.
use Rattle.std.proofs.Common.{◌≡◌, ℕ, zero, suc, ◌+◌, ◌-◌, ◌*◌, ◌/◌, ◌%◌, ◌<◌, ◌≤◌, Bool, true, false, cond, List, [], ◌∷◌, ◌++◌, take, refl, sym, ap₂, ◌∙◌, subst, ⊎_elim, arith, encode_utf8}
use Rattle.std.specs.Prelude.{◌==◌, ◌&&◌, ◌||◌, ◌≢◌, nat_lt, nat_le}
use lib.Utf8.{scalar, encode}
use Rattle.std.specs.Str.{IsUtf8}
use Rattle.std.proofs.str.Laws.{order}
use Rattle.std.proofs.lemmas.Str.{IsUtf8-nil, IsUtf8-append, IsUtf8-encode, IsUtf8-from_ascii, encode_ascii}
use Rattle.std.proofs.lemmas.Bool.{ne_eqb, eq-eqb, eqb-true, lt-ltb, ltb-true, le-ltb, leb-true, le-leb}
use Rattle.mc_tokens.specs.Classes.{between, hex_digit, hex_value, is_digit_of}
use Rattle.mc_tokens.specs.Utf8.{at, continues, second, len_of, char_len}
use Rattle.mc_tokens.specs.Spots.{At, Faulty, Turn, Go, Stop, Quoting, Plain, Backslash, Digits, Exact, is_simple, quote_turn, unescaped}
use Rattle.mc_tokens.specs.Contents.{contents, says, escaped, stands_for}
use Rattle.std.specs.Prelude.{Result, Ok, Err, IfOk}
use Rattle.mc_tokens.specs.Answers.{IsUtf8Text}
use Rattle.mc_tokens.specs.declared.token.Kind.{Kind}
use Rattle.mc_tokens.specs.declared.token.Kind.TheVariants.{Name, Quoted, Var, Str}
use Rattle.mc_tokens.specs.declared.token.FaultKind.TheVariants.{NotUtf8, BadChar}
use Rattle.mc_tokens.proofs.Escapes.{escaped_small}
use Rattle.mc_tokens.proofs.Quotes.{yes, no}
use Rattle.mc_base.proofs.Booleans.{left_true, right_true}

-- an ASCII byte is a text
pub ascii_text : (x : ℕ) → x < 128 → IsUtf8 (x ∷ [])
ascii_text x h = subst (λ (bs : List ℕ). IsUtf8 bs) (encode_ascii x h) (IsUtf8-encode x (yes (nat_le 57344 x && nat_lt x 1114112) (lt-ltb x 55296 (omega arith))))

-- the marks of simple escapes are ASCII
neither : (a b : Bool) → a ≡ false → b ≡ false → a || b ≡ false
neither a b e f = ap₂ (λ a b. a || b) e f

pub simple_small : (x : ℕ) → is_simple x ≡ true → x < 256
simple_small x e = ⊎_elim (λ lt. lt) (λ le. absurd (never le)) (order x 256)
  where
    off : (k : ℕ) → k < 256 → 256 ≤ x → (x == k) ≡ false
    off k l h = ne_eqb x k (λ f. omega arith)

    never : 256 ≤ x → ⊥
    never h =
        let none : is_simple x ≡ false =
        neither _ _ (neither _ _ (neither _ _ (neither _ _ (neither _ _ (neither _ _ (neither _ _ (neither _ _ (neither _ _ (neither _ _ (neither _ _ (off 97 (omega arith) h) (off 98 (omega arith) h)) (off 102 (omega arith) h)) (off 110 (omega arith) h)) (off 114 (omega arith) h)) (off 116 (omega arith) h)) (off 118 (omega arith) h)) (off 92 (omega arith) h)) (off 39 (omega arith) h)) (off 34 (omega arith) h)) (off 96 (omega arith) h)) (off 10 (omega arith) h) in
        cc

-- a character of the table is the encoding of a scalar value
below_55296 : (x : ℕ) → x < 55296 → scalar x ≡ true
below_55296 x h = yes (nat_le 57344 x && nat_lt x 1114112) (lt-ltb x 55296 h)

above_57344 : (x : ℕ) → 57344 ≤ x → x < 1114112 → scalar x ≡ true
above_57344 x h k = no true (le-ltb x 55296 (omega arith)) ∙ ap₂ (λ a b. a && b) (le-leb 57344 x h) (lt-ltb x 1114112 k)

is_encoded : (x : ℕ) (bs : List ℕ) → scalar x ≡ true → encode x ≡ bs → IsUtf8 bs
is_encoded x bs s e = subst (λ (bs : List ℕ). IsUtf8 bs) e (IsUtf8-encode x s)

record Between (lo hi x : ℕ) : Type 0 where
  low : lo ≤ x
  high : x ≤ hi

in_between : (lo hi x : ℕ) → between lo hi x ≡ true → Between lo hi x
in_between lo hi x e = record { low = leb-true lo x (left_true (nat_le lo x) (nat_le x hi) e); high = leb-true x hi (right_true (nat_le lo x) (nat_le x hi) e) }

two_bytes : (b c : ℕ) → Between 194 223 b → Between 128 191 c → IsUtf8 (b ∷ c ∷ [])
unfolding encode
two_bytes b c p q =
    let x = (b - 192) * 64 + (c - 128) in
    let open_low : 128 ≤ x = omega (arith, p.low, p.high, q.low, q.high) in
    let open_high : x < 2048 = omega (arith, p.low, p.high, q.low, q.high) in
    let first : 192 + x / 64 ≡ b = omega (arith, p.low, p.high, q.low, q.high) in
    let last : 128 + x % 64 ≡ c = omega (arith, p.low, p.high, q.low, q.high) in
    is_encoded x (b ∷ c ∷ []) (below_55296 x (omega arith))
    (no _ (le-ltb x 128 open_low) ∙ yes _ (lt-ltb x 2048 open_high) ∙ ap₂ (λ m n. m ∷ n ∷ []) first last)

three_bytes : (b c d : ℕ) → Between 224 239 b → Between 128 191 c → Between 128 191 d → (b ≡ 224 → 160 ≤ c) → (b ≡ 237 → c ≤ 159) → IsUtf8 (b ∷ c ∷ d ∷ [])
unfolding encode
three_bytes b c d p q r s t =
    let y = (b - 224) * 64 + (c - 128) in
    let x = y * 64 + (d - 128) in
    let enough : 32 ≤ y = ⊎_elim (λ lt. let f : b ≡ 224 = omega (arith, p.low) in let g = s f in omega (arith, p.low, q.low, g)) (λ ge. omega (arith, q.low)) (order b 225) in
    let limit : y < 1024 = omega (arith, p.low, p.high, q.low, q.high) in
    let low : 2048 ≤ x = omega (arith, enough, r.low) in
    let high : x < 65536 = omega (arith, limit, r.low, r.high) in
    let quotient : x / 64 ≡ y = omega (arith, r.low, r.high) in
    let quarter : x / 4096 ≡ b - 224 = omega (arith, r.low, r.high, q.low, q.high) in
    let first : 224 + x / 4096 ≡ b = omega (arith, quarter, p.low) in
    let middle : 128 + (x / 64) % 64 ≡ c = omega (arith, quotient, q.low, q.high) in
    let last : 128 + x % 64 ≡ d = omega (arith, r.low, r.high) in
    let fits : scalar x ≡ true =
    ⊎_elim (λ lt. below_55296 x (⊎_elim (λ l. omega (arith, p.low, q.low, q.high, r.low, r.high, l)) (λ ge. let f : b ≡ 237 = omega (arith, lt, ge) in let g = t f in omega (arith, f, g, q.low, r.low, r.high)) (order b 237)))
    (λ ge. above_57344 x (omega (arith, ge, p.low)) (omega (arith, high))) (order b 238) in
    is_encoded x (b ∷ c ∷ d ∷ []) fits
    (no _ (le-ltb x 128 (omega (arith, low))) ∙ no _ (le-ltb x 2048 low) ∙ yes _ (lt-ltb x 65536 high) ∙ (λ i. first i ∷ middle i ∷ last i ∷ []))

four_bytes : (b c d e : ℕ) → Between 240 244 b → Between 128 191 c → Between 128 191 d → Between 128 191 e → (b ≡ 240 → 144 ≤ c) → (b ≡ 244 → c ≤ 143) → IsUtf8 (b ∷ c ∷ d ∷ e ∷ [])
unfolding encode
four_bytes b c d e p q r u s t =
    let z = (b - 240) * 64 + (c - 128) in
    let y = z * 64 + (d - 128) in
    let x = y * 64 + (e - 128) in
    let enough : 16 ≤ z = ⊎_elim (λ lt. let f : b ≡ 240 = omega (arith, p.low) in let g = s f in omega (arith, p.low, q.low, g)) (λ ge. omega (arith, q.low)) (order b 241) in
    let limit : z < 272 = ⊎_elim (λ lt. omega (arith, p.low, q.low, q.high)) (λ ge. let f : b ≡ 244 = omega (arith, p.high) in let g = t f in omega (arith, f, g, q.low)) (order b 244) in
    let low : 65536 ≤ x = omega (arith, enough, r.low, u.low) in
    let high : x < 1114112 = omega (arith, limit, r.low, r.high, u.low, u.high) in
    let by_64 : x / 64 ≡ y = omega (arith, u.low, u.high) in
    let by_4096 : x / 4096 ≡ z = omega (arith, u.low, u.high, r.low, r.high) in
    let by_all : x / 262144 ≡ b - 240 = omega (arith, u.low, u.high, r.low, r.high, q.low, q.high) in
    let first : 240 + x / 262144 ≡ b = omega (arith, by_all, p.low) in
    let second : 128 + (x / 4096) % 64 ≡ c = omega (arith, by_4096, q.low, q.high) in
    let third : 128 + (x / 64) % 64 ≡ d = omega (arith, by_64, r.low, r.high) in
    let last : 128 + x % 64 ≡ e = omega (arith, u.low, u.high) in
    is_encoded x (b ∷ c ∷ d ∷ e ∷ []) (above_57344 x (omega (arith, low)) high)
    (no _ (le-ltb x 128 (omega (arith, low))) ∙ no _ (le-ltb x 2048 (omega (arith, low))) ∙ no _ (le-ltb x 65536 low) ∙ (λ i. first i ∷ second i ∷ third i ∷ last i ∷ []))

-- what may follow a first byte
record SecondIs (b x : ℕ) : Type 0 where
  any : Between 128 191 x
  at_224 : b ≡ 224 → 160 ≤ x
  at_237 : b ≡ 237 → x ≤ 159
  at_240 : b ≡ 240 → 144 ≤ x
  at_244 : b ≡ 244 → x ≤ 143

second_is : (b x : ℕ) → second b x ≡ true → SecondIs b x
unfolding second
second_is b x = go (b == 224) (b == 237) (b == 240) (b == 244) refl refl refl refl
  where
    go : (k l m n : Bool) → (b == 224) ≡ k → (b == 237) ≡ l → (b == 240) ≡ m → (b == 244) ≡ n
        → cond k (between 160 191 x) (cond l (between 128 159 x) (cond m (between 144 191 x) (cond n (between 128 143 x) (continues x)))) ≡ true → SecondIs b x
    go true l m n e f g h t =
        let r = in_between 160 191 x t in
        let is : b ≡ 224 = eqb-true b 224 e in
        record { any = record { low = omega (arith, r.low); high = r.high }; at_224 = λ _. r.low; at_237 = λ w. absurd (omega arith); at_240 = λ w. absurd (omega arith); at_244 = λ w. absurd (omega arith) }
    go false true m n e f g h t =
        let r = in_between 128 159 x t in
        let is : b ≡ 237 = eqb-true b 237 f in
        record { any = record { low = r.low; high = omega (arith, r.high) }; at_224 = λ w. absurd (omega arith); at_237 = λ _. r.high; at_240 = λ w. absurd (omega arith); at_244 = λ w. absurd (omega arith) }
    go false false true n e f g h t =
        let r = in_between 144 191 x t in
        let is : b ≡ 240 = eqb-true b 240 g in
        record { any = record { low = omega (arith, r.low); high = r.high }; at_224 = λ w. absurd (omega arith); at_237 = λ w. absurd (omega arith); at_240 = λ _. r.low; at_244 = λ w. absurd (omega arith) }
    go false false false true e f g h t =
        let r = in_between 128 143 x t in
        let is : b ≡ 244 = eqb-true b 244 h in
        record { any = record { low = r.low; high = omega (arith, r.high) }; at_224 = λ w. absurd (omega arith); at_237 = λ w. absurd (omega arith); at_240 = λ w. absurd (omega arith); at_244 = λ _. r.high }
    go false false false false e f g h t =
        record { any = in_between 128 191 x t; at_224 = λ w. differ (sym e ∙ eq-eqb b 224 w); at_237 = λ w. differ (sym f ∙ eq-eqb b 237 w); at_240 = λ w. differ (sym g ∙ eq-eqb b 240 w); at_244 = λ w. differ (sym h ∙ eq-eqb b 244 w) }
      where
        differ : {A : Type 0} → false ≡ true → A
        differ w = cc

-- the character at the front is a text
front_2 : (b : ℕ) (bs : List ℕ) → Between 194 223 b → continues (at bs 0) ≡ true → IsUtf8 (take 2 (b ∷ bs))
front_2 b [] p e = cc
front_2 b (c ∷ cs) p e = two_bytes b c p (in_between 128 191 c e)

front_3 : (b : ℕ) (bs : List ℕ) → Between 224 239 b → (second b (at bs 0) && continues (at bs 1)) ≡ true → IsUtf8 (take 3 (b ∷ bs))
front_3 b [] p e = let s = second_is b 0 (left_true (second b 0) (continues 0) e) in absurd (omega (arith, s.any.low))
front_3 b (c ∷ []) p e = let f = right_true (second b c) (continues 0) e in cc
front_3 b (c ∷ d ∷ ds) p e =
    let s = second_is b c (left_true (second b c) (continues d) e) in
    three_bytes b c d p s.any (in_between 128 191 d (right_true (second b c) (continues d) e)) s.at_224 s.at_237

front_4 : (b : ℕ) (bs : List ℕ) → Between 240 244 b → (second b (at bs 0) && (continues (at bs 1) && continues (at bs 2))) ≡ true → IsUtf8 (take 4 (b ∷ bs))
front_4 b [] p e = let s = second_is b 0 (left_true (second b 0) (continues 0 && continues 0) e) in absurd (omega (arith, s.any.low))
front_4 b (c ∷ []) p e = let f = right_true (second b c) (continues 0 && continues 0) e in cc
front_4 b (c ∷ d ∷ []) p e = let f = right_true (continues d) (continues 0) (right_true (second b c) (continues d && continues 0) e) in cc
front_4 b (c ∷ d ∷ x ∷ xs) p e =
    let s = second_is b c (left_true (second b c) (continues d && continues x) e) in
    let t = right_true (second b c) (continues d && continues x) e in
    four_bytes b c d x p s.any (in_between 128 191 d (left_true (continues d) (continues x) t)) (in_between 128 191 x (right_true (continues d) (continues x) t)) s.at_240 s.at_244

-- the length of a character by the tests of its table
abbrev length_by : Bool → Bool → Bool → Bool → Bool → Bool → Bool → ℕ
length_by p t u v x y z = cond p 1 (cond t (cond x 2 0) (cond u (cond y 3 0) (cond v (cond z 4 0) 0)))

pub char_text : (b : ℕ) (bs : List ℕ) → char_len (b ∷ bs) ≢ 0 → IsUtf8 (take (char_len (b ∷ bs)) (b ∷ bs))
unfolding char_len len_of
char_text b bs = go (nat_lt b 128) (between 194 223 b) (between 224 239 b) (between 240 244 b) (continues (at bs 0)) (second b (at bs 0) && continues (at bs 1)) (second b (at bs 0) && (continues (at bs 1) && continues (at bs 2))) refl refl refl refl refl refl refl
  where
    go : (p t u v x y z : Bool) → nat_lt b 128 ≡ p → between 194 223 b ≡ t → between 224 239 b ≡ u → between 240 244 b ≡ v → continues (at bs 0) ≡ x → (second b (at bs 0) && continues (at bs 1)) ≡ y → (second b (at bs 0) && (continues (at bs 1) && continues (at bs 2))) ≡ z
        → length_by p t u v x y z ≢ 0 → IsUtf8 (take (length_by p t u v x y z) (b ∷ bs))
    go true t u v x y z a c d e f g h n = ascii_text b (ltb-true b 128 a)
    go false true u v true y z a c d e f g h n = front_2 b bs (in_between 194 223 b c) f
    go false true u v false y z a c d e f g h n = absurd (n refl)
    go false false true v x true z a c d e f g h n = front_3 b bs (in_between 224 239 b d) g
    go false false true v x false z a c d e f g h n = absurd (n refl)
    go false false false true x y true a c d e f g h n = front_4 b bs (in_between 240 244 b e) h
    go false false false true x y false a c d e f g h n = absurd (n refl)
    go false false false false x y z a c d e f g h n = absurd (n refl)

-- what a turn says, where the walk goes on
module _ (q b : ℕ) (bs : List ℕ) (small : q < 128) (n : Quoting) (k : ℕ) where
  plain_text : quote_turn q Plain 0 b bs ≡ Go n k → IsUtf8 (says q Plain b bs)
  unfolding quote_turn
  plain_text = go (b == q) (b == 92)
    where
      go : (t w : Bool) → cond t (cond (at bs 0 == q) (Go Plain 1) (Stop (At (0 + 1)))) (cond w (Go (Backslash 0) 0) (cond (char_len (b ∷ bs) == 0) (Stop (Faulty NotUtf8 0)) (Go Plain (char_len (b ∷ bs) - 1)))) ≡ Go n k
          → IsUtf8 (cond t (q ∷ []) (cond w [] (take (char_len (b ∷ bs)) (b ∷ bs))))
      go true w e = ascii_text q small
      go false true e = IsUtf8-nil
      go false false e = char_text b bs (λ z. let stops = yes (Go Plain (char_len (b ∷ bs) - 1)) (eq-eqb (char_len (b ∷ bs)) 0 z) in differ (sym stops ∙ e))
        where
          differ : Stop (Faulty NotUtf8 0) ≡ Go n k → ⊥
          differ w = cc

  backslash_text : (s : ℕ) → IsUtf8 (says q (Backslash s) b bs)
  backslash_text s = go (b == 10) (is_simple b) refl
    where
      go : (t w : Bool) → is_simple b ≡ w → IsUtf8 (cond t [] (cond w (escaped b ∷ []) []))
      go true w e = IsUtf8-nil
      go false true e = ascii_text (escaped b) (ltb-true (escaped b) 128 (escaped_small b (simple_small b e) e))
      go false false e = IsUtf8-nil

  digits_text : (s base v : ℕ) (some : Bool) → quote_turn q (Digits s base v some) 0 b bs ≡ Go n k → IsUtf8 (says q (Digits s base v some) b bs)
  unfolding quote_turn
  digits_text s base v some = go (is_digit_of base b) ((b == 92) && (some && scalar v)) refl
    where
      go : (t w : Bool) → ((b == 92) && (some && scalar v)) ≡ w → cond t (Go (Digits s base (base * v + hex_value b) true) 0) (cond w (Go Plain 0) (Stop (unescaped s 0 (b ∷ bs)))) ≡ Go n k → IsUtf8 (cond t [] (encode_utf8 v))
      go true w f e = IsUtf8-nil
      go false true f e = IsUtf8-encode v (right_true some (scalar v) (right_true (b == 92) (some && scalar v) f))
      go false false f e = cc

  exact_text : (s more v : ℕ) → quote_turn q (Exact s more v) 0 b bs ≡ Go n k → IsUtf8 (says q (Exact s more v) b bs)
  unfolding quote_turn
  exact_text s zero v = go (hex_digit b) (scalar (16 * v + hex_value b)) refl
    where
      go : (t w : Bool) → scalar (16 * v + hex_value b) ≡ w → cond t (cond w (Go Plain 0) (Stop (Faulty BadChar s))) (Stop (unescaped s 0 (b ∷ bs))) ≡ Go n k → IsUtf8 (encode_utf8 (16 * v + hex_value b))
      go true true f e = IsUtf8-encode (16 * v + hex_value b) f
      go true false f e = cc
      go false w f e = cc
  exact_text s (suc more) v = λ e. IsUtf8-nil

  says_text : (m : Quoting) → quote_turn q m 0 b bs ≡ Go n k → IsUtf8 (says q m b bs)
  says_text Plain e = plain_text e
  says_text (Backslash s) e = backslash_text s
  says_text (Digits s base v some) e = digits_text s base v some e
  says_text (Exact s more v) e = exact_text s more v e

pub contents_text : (q : ℕ) → q < 128 → (m : Quoting) (past : ℕ) (bs : List ℕ) → IsUtf8 (contents q m past bs)
contents_text q h m past [] = IsUtf8-nil
contents_text q h m (suc past) (b ∷ bs) = contents_text q h m past bs
contents_text q h m zero (b ∷ bs) = go (λ n past. contents_text q h n past bs) (quote_turn q m 0 b bs) refl
  where
    go : ((n : Quoting) (past : ℕ) → IsUtf8 (contents q n past bs)) → (t : Turn Quoting) → quote_turn q m 0 b bs ≡ t → IsUtf8 (elim t [ Go n past ↦ says q m b bs ++ contents q n past bs | Stop s ↦ [] ])
    go ih (Go n past) e = IsUtf8-append (says q m b bs) (contents q n past bs) (says_text q b bs h n past m e) (ih n past)
    go ih (Stop s) e = IsUtf8-nil

-- the answers of token_text
pub spoken_utf8 : {E : Type 0} (r : Result (List ℕ) E) (q : ℕ) (bs : List ℕ) → q < 128 → IfOk r (λ text. text ≡ contents q Plain 0 bs) → IfOk r (λ text. IsUtf8 text)
spoken_utf8 (Ok text) q bs h e = subst (λ (t : List ℕ). IsUtf8 t) (sym e) (contents_text q h Plain 0 bs)
spoken_utf8 (Err x) q bs h e = tt

pub plain_stands : (k : Kind) (bytes : List ℕ) → (k ≡ Quoted → ⊥) → (k ≡ Str → ⊥) → stands_for k bytes ≡ bytes
plain_stands Quoted bytes n m = absurd (n refl)
plain_stands Str bytes n m = absurd (m refl)
plain_stands _ bytes n m = refl

pub plain_utf8 : (k : Kind) (bytes : List ℕ) → (k ≡ Quoted → ⊥) → (k ≡ Str → ⊥) → IsUtf8Text k bytes bytes
plain_utf8 Quoted bytes n m = absurd (n refl)
plain_utf8 Str bytes n m = absurd (m refl)
plain_utf8 Name bytes n m = IsUtf8-from_ascii bytes
plain_utf8 Var bytes n m = IsUtf8-from_ascii bytes
plain_utf8 _ bytes n m = tt

pub answer_by : {E : Type 0} {P Q : List ℕ → Type 0} (r : Result (List ℕ) E) → ((t : List ℕ) → P t → Q t) → IfOk r P → IfOk r Q
answer_by (Ok t) f h = f t h
answer_by (Err x) f h = tt
