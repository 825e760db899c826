-- Printed names and numbers as tokens.
use Rattle.std.proofs.Common.{◌≡◌, ℕ, zero, suc, ◌+◌, ◌*◌, ◌/◌, ◌%◌, ◌^◌, ◌<◌, ◌≤◌, Bool, true, false, cond, List, [], ◌∷◌, ◌++◌, length, drop, get_or, refl, sym, ap, ◌∙◌, arith, ◌⊎◌, inl, inr, ⊎_elim, length-append}
use Rattle.std.specs.Prelude.{◌==◌, ◌&&◌, ◌||◌, ◌≢◌, nat_lt, not, decimal}
use Rattle.std.specs.List.{prefix_len, list_all}
use Rattle.std.specs.Str.{IsUtf8}
use Rattle.std.proofs.lemmas.Fmt.{decimal_by_steps}
use Rattle.std.proofs.lemmas.Bool.{ne_eqb, lt-ltb, le-ltb, eqb-true}
use Rattle.std.proofs.lemmas.List.{append-nil, get_or_append_left, get_or-append-add}
use Rattle.mc_program.specs.Printed.{in_quotes, is_bare, is_lower, is_word_byte}
use Rattle.mc_tokens.specs.Classes.{is_name_tail, is_symbol, is_digit_of, hex_digit, hex_value, starts_var, between}
use Rattle.mc_tokens.specs.Classes.{is_lower as starts_name}
use Rattle.mc_tokens.specs.Utf8.{at}
use Rattle.mc_tokens.specs.Tokens.{Tok, Fault, token, begun, first, is_int, quoted, digits, of_form, form, form_after_zero, number, spelled}
use Rattle.mc_tokens.specs.Tokens.{decimal as decimal_token}
use Rattle.mc_tokens.specs.Contents.{stands_for}
use Rattle.mc_tokens.specs.declared.begins.First.TheVariants.{Lower, Digit}
use Rattle.mc_tokens.specs.declared.begins.Form.TheVariants.{Decimal}
use Rattle.mc_tokens.specs.declared.token.Kind.{Kind}
use Rattle.mc_tokens.specs.declared.token.Kind.TheVariants.{Name, Quoted, Str, Int}
use Rattle.mc_tokens.specs.declared.token.FaultKind.TheVariants.{IntTooLarge}
use Rattle.mc_tokens.proofs.Quotes.{yes, no}
use Rattle.mc_tokens.proofs.Escapes.{by_bytes}
use Rattle.laws_print.proofs.Characters.{quoted_whole, take_front, and_true, neither, above, below_or}
use Rattle.mc_base.proofs.Booleans.{left_true, right_true}

-- a quote as a token
pub string_token :
    (before : Kind) (start : ℕ) (bytes rest : List ℕ)
    → IsUtf8 bytes → at rest 0 ≢ 34
    → token before start (in_quotes 34 bytes ++ rest)
    ≡ Tok Str start (start + length (in_quotes 34 bytes))
unfolding token
string_token before start bytes rest utf8 n =
    ap (λ s. quoted Str s start) (quoted_whole 34 start bytes rest (inr refl) utf8 n).0

pub name_token :
    (before : Kind) (start : ℕ) (bytes rest : List ℕ)
    → IsUtf8 bytes → at rest 0 ≢ 39
    → token before start (in_quotes 39 bytes ++ rest)
    ≡ Tok Quoted start (start + length (in_quotes 39 bytes))
unfolding token
name_token before start bytes rest utf8 n =
    ap (λ s. quoted Quoted s start) (quoted_whole 39 start bytes rest (inl refl) utf8 n).0

pub string_says : (bytes : List ℕ) → IsUtf8 bytes → stands_for Str (in_quotes 34 bytes) ≡ bytes
string_says bytes utf8 =
    ap (λ l. stands_for Str l) (sym (append-nil (in_quotes 34 bytes))) ∙
    (quoted_whole 34 0 bytes [] (inr refl) utf8 (omega arith)).1

pub name_says : (bytes : List ℕ) → IsUtf8 bytes → stands_for Quoted (in_quotes 39 bytes) ≡ bytes
name_says bytes utf8 =
    ap (λ l. stands_for Quoted l) (sym (append-nil (in_quotes 39 bytes))) ∙
    (quoted_whole 39 0 bytes [] (inl refl) utf8 (omega arith)).1

word_same : (l u d s : Bool) → ((l || u) || d) || s ≡ ((d || u) || s) || l
word_same true true true true = refl
word_same true true true false = refl
word_same true true false true = refl
word_same true true false false = refl
word_same true false true true = refl
word_same true false true false = refl
word_same true false false true = refl
word_same true false false false = refl
word_same false true true true = refl
word_same false true true false = refl
word_same false true false true = refl
word_same false true false false = refl
word_same false false true true = refl
word_same false false true false = refl
word_same false false false true = refl
word_same false false false false = refl

word_byte : (b : ℕ) → is_word_byte b ≡ is_name_tail b
word_byte b = word_same (is_lower b) _ _ _

-- a run of bytes of a class, before a byte that is of another
run :
    (p : ℕ → Bool) (xs rest : List ℕ)
    → list_all p xs ≡ true → p (at rest 0) ≡ false → prefix_len p (xs ++ rest) ≡ length xs
run p [] [] all other = refl
run p [] (y ∷ ys) all other = no _ other
run p (x ∷ xs) rest all other =
    yes _ (left_true (p x) (list_all p xs) all) ∙
    (let e = run p xs rest (right_true (p x) (list_all p xs) all) other in omega arith)

all_tails : (xs : List ℕ) → list_all is_word_byte xs ≡ true → list_all is_name_tail xs ≡ true
all_tails [] h = refl
all_tails (x ∷ xs) h =
    and_true (is_name_tail x) (list_all is_name_tail xs)
    (sym (word_byte x) ∙ left_true (is_word_byte x) (list_all is_word_byte xs) h)
    (all_tails xs (right_true (is_word_byte x) (list_all is_word_byte xs) h))

-- a name without quotes as a token
pub bare_token :
    (before : Kind) (start : ℕ) (name rest : List ℕ)
    → is_bare name ≡ true → is_int before ≡ false → is_name_tail (at rest 0) ≡ false
    → token before start (name ++ rest) ≡ Tok Name start (start + length name)
unfolding token
bare_token before start [] rest bare free ends = cc
bare_token before start (b ∷ bs) rest bare free ends =
    let kind : first b ≡ Lower = yes _ (left_true (is_lower b) (list_all is_word_byte bs) bare) in
    let long : 1 + prefix_len is_name_tail (bs ++ rest) ≡ suc (length bs) = let e = run is_name_tail bs rest (all_tails bs (right_true (is_lower b) (list_all is_word_byte bs) bare)) ends in omega arith in
    ap (begun before start b (bs ++ rest)) kind ∙ no _ free ∙ ap (λ n. Tok Name start (start + n))
    long

-- the digits of a number
pub record Digits (n : ℕ) (ds : List ℕ) : Type 0 where
  pub all : list_all (is_digit_of 10) ds ≡ true
  pub value : spelled 10 0 ds ≡ n
  pub some : 0 < length ds
  pub head : (k : ℕ) × (k < 10) × (get_or ds 0 0 ≡ 48 + k) × (0 < n → 0 < k)
  pub nought : n ≡ 0 → ds ≡ 48 ∷ []

digit_good : (d : ℕ) → d < 10 → is_digit_of 10 (48 + d) && (hex_value (48 + d) == d) ≡ true
digit_good d lt =
    by_bytes (λ d. nat_lt d 10) (λ d. is_digit_of 10 (48 + d) && (hex_value (48 + d) == d)) tt d
    (omega arith) (lt-ltb d 10 lt)

pub is_ten : (d : ℕ) → d < 10 → is_digit_of 10 (48 + d) ≡ true
is_ten d lt = left_true (is_digit_of 10 (48 + d)) (hex_value (48 + d) == d) (digit_good d lt)

ten_value : (d : ℕ) → d < 10 → hex_value (48 + d) ≡ d
ten_value d lt =
    eqb-true (hex_value (48 + d)) d
    (right_true (is_digit_of 10 (48 + d)) (hex_value (48 + d) == d) (digit_good d lt))

one_digit : (n : ℕ) → n < 10 → Digits n ((48 + n) ∷ [])
one_digit n lt = record {
  all = and_true (is_digit_of 10 (48 + n)) true (is_ten n lt) refl;
  value = let e = ten_value n lt in omega arith;
  some = omega arith;
  head = (n, lt, refl, λ h. h);
  nought = λ e. ap (λ k. (48 + k) ∷ []) e;
}

spelled_push :
    (v : ℕ) (ds : List ℕ) (d : ℕ)
    → spelled 10 v (ds ++ (d ∷ [])) ≡ 10 * spelled 10 v ds + hex_value d
spelled_push v [] d = refl
spelled_push v (x ∷ ds) d = spelled_push (10 * v + hex_value x) ds d

all_push :
    (ds : List ℕ) (d : ℕ)
    → list_all (is_digit_of 10) ds ≡ true → is_digit_of 10 d ≡ true
    → list_all (is_digit_of 10) (ds ++ (d ∷ [])) ≡ true
all_push [] d h e = and_true (is_digit_of 10 d) true e refl
all_push (x ∷ ds) d h e =
    and_true (is_digit_of 10 x) (list_all (is_digit_of 10) (ds ++ (d ∷ [])))
    (left_true (is_digit_of 10 x) (list_all (is_digit_of 10) ds) h)
    (all_push ds d (right_true (is_digit_of 10 x) (list_all (is_digit_of 10) ds) h) e)

more_digits :
    (n : ℕ) (ds : List ℕ) → 10 ≤ n → Digits (n / 10) ds → Digits n (ds ++ ((48 + n % 10) ∷ []))
more_digits n ds le h =
    let d = n % 10 in
    let lt : d < 10 = omega arith in
    let v = ten_value d lt in
    let w = h.value in
    let push = spelled_push 0 ds (48 + d) in
    let front : 0 < n / 10 = omega arith in
    record {
      all = all_push ds (48 + d) h.all (is_ten d lt);
      value = omega arith;
      some = omega (arith, length-append ds ((48 + d) ∷ []));
      head = (h.head.0, h.head.1, get_or_append_left ds ((48 + d) ∷ []) 0 0 h.some ∙ h.head.2, λ z. h.head.3 front);
      nought = λ z. absurd (omega arith);
    }

pub decimal_digits : (n : ℕ) → n < 2 ^ 64 → Digits n (decimal n)
decimal_digits n lt = decimal_by_steps Digits one_digit more_digits n lt

-- what a digit begins
first_digit : (k : ℕ) → k < 10 → first (48 + k) ≡ Digit
first_digit k lt =
    let t = by_bytes (λ k. nat_lt k 10) (λ k. not (starts_name (48 + k)) && not (starts_var (48 + k))) tt k (omega arith) (lt-ltb k 10 lt) in
    no _
    (not_false (starts_name (48 + k))
    (left_true (not (starts_name (48 + k))) (not (starts_var (48 + k))) t))
    ∙ no _
    (not_false (starts_var (48 + k))
    (right_true (not (starts_name (48 + k))) (not (starts_var (48 + k))) t))
    ∙ yes _ (is_ten k lt)
  where
    not_false : (b : Bool) → not b ≡ true → b ≡ false
    not_false true e = cc
    not_false false e = refl

no_tail : (c k : ℕ) → is_name_tail c ≡ false → is_name_tail k ≡ true → c ≢ k
no_tail c k f t e = let g = ap is_name_tail e in cc

pub left_false : (a b : Bool) → a ≡ false → a && b ≡ false
left_false true b e = cc
left_false false b e = refl

plain_zero : (c : ℕ) (r : List ℕ) → is_name_tail c ≡ false → c ≢ 39 → form_after_zero c r ≡ Decimal
plain_zero c r f n =
    no _ (left_false (c == 120) _ (ne_eqb c 120 (no_tail c 120 f refl)))
    ∙ no _ (left_false (c == 111) _ (ne_eqb c 111 (no_tail c 111 f refl)))
    ∙ no _ (left_false (c == 98) _ (ne_eqb c 98 (no_tail c 98 f refl)))
    ∙ no _ (left_false (c == 39) _ (ne_eqb c 39 n))

number_form :
    (n : ℕ) (ds rest : List ℕ)
    → Digits n ds → is_name_tail (at rest 0) ≡ false → at rest 0 ≢ 39
    → form (ds ++ rest) ≡ Decimal
number_form n ds rest h ends q = ⊎_elim (λ z. zero_case z) (λ p. more_case p) (is_zero n)
  where
    is_zero : (m : ℕ) → (m ≡ 0) ⊎ (0 < m)
    is_zero zero = inl refl
    is_zero (suc m) = inr (omega arith)

    zero_case : n ≡ 0 → form (ds ++ rest) ≡ Decimal
    zero_case z =
        ap (λ l. form (l ++ rest)) (h.nought z) ∙ plain_zero (at rest 0) (drop 2 (48 ∷ rest)) ends q

    more_case : 0 < n → form (ds ++ rest) ≡ Decimal
    more_case p =
        let there : at (ds ++ rest) 0 ≡ 48 + h.head.0 = get_or_append_left ds rest 0 0 h.some ∙ h.head.2 in
        let k = h.head.3 p in
        let other : at (ds ++ rest) 0 ≢ 48 = omega arith in
        no _ (ne_eqb (at (ds ++ rest) 0) 48 other)

no_hex : (c : ℕ) → 256 ≤ c → hex_digit c ≡ false
no_hex c le =
    neither (between 48 57 c || between 65 70 c) (between 97 102 c)
    (neither (between 48 57 c) (between 65 70 c) (above 48 57 c (omega arith))
    (above 65 70 c (omega arith))) (above 97 102 c (omega arith))

digit_tail : (c : ℕ) → is_name_tail c ≡ false → is_digit_of 10 c ≡ false
digit_tail c f = go (is_digit_of 10 c) refl
  where
    go : (t : Bool) → is_digit_of 10 c ≡ t → t ≡ false
    go false e = refl
    go true e = ⊎_elim (λ lt. let tail : is_name_tail c ≡ true = by_bytes (is_digit_of 10) is_name_tail tt c lt e in cc)
        (λ le. let hex = left_true (hex_digit c) (nat_lt (hex_value c) 10) e in let none = no_hex c le in cc) (below_or c 256)

at_end : (xs rest : List ℕ) → at (xs ++ rest) (length xs) ≡ at rest 0
at_end xs rest = let z : length xs ≡ length xs + 0 = omega arith in ap (λ i. get_or (xs ++ rest) i 0) z ∙ get_or-append-add xs rest 0 0

digits_token : (before : Kind) (start n : ℕ) (ds rest : List ℕ) → Digits n ds → n ≤ 2 ^ 63 → is_name_tail (at rest 0) ≡ false → at rest 0 ≢ 39 → (at rest 0 == 46) && is_digit_of 10 (at rest 1) ≡ false
    → token before start (ds ++ rest) ≡ Tok (Int n) start (start + length ds)
unfolding token digits
digits_token before start n [] rest h small ends quote float =
    let some = h.some in absurd (omega arith)
digits_token before start n (d ∷ ds) rest h small ends quote float =
    let xs = d ∷ ds in
    let kind : first d ≡ Digit = ap first h.head.2 ∙ first_digit h.head.0 h.head.1 in
    let long : prefix_len (is_digit_of 10) (xs ++ rest) ≡ length xs = run (is_digit_of 10) xs rest h.all (digit_tail (at rest 0) ends) in
    let whole_number : (at (xs ++ rest) (length xs) == 46) && is_digit_of 10 (at (xs ++ rest) (length xs + 1)) ≡ false =
    ap (λ c. (c == 46) && is_digit_of 10 (at (xs ++ rest) (length xs + 1))) (at_end xs rest) ∙ ap
    (λ c. (at rest 0 == 46) && is_digit_of 10 c) (get_or-append-add xs rest 1 0) ∙ float in
    ap (begun before start d (ds ++ rest)) kind
    ∙ ap (λ f. of_form f start (xs ++ rest)) (number_form n xs rest h ends quote)
    ∙ ap (λ m. decimal_token start m (xs ++ rest)) long
    ∙ no _ whole_number
    ∙ ap (number 10 start (start + length xs)) (take_front (length xs) xs rest refl)
    ∙ ap
    (λ v.
    cond (nat_lt (2 ^ 63) v) (Fault IntTooLarge start)
    (Tok (Int v) start (start + length xs))) h.value
    ∙ no _ (le-ltb (2 ^ 63) n small)

-- a number as a token
pub number_token : (before : Kind) (start n : ℕ) (rest : List ℕ) → n ≤ 2 ^ 63 → is_name_tail (at rest 0) ≡ false → at rest 0 ≢ 39 → (at rest 0 == 46) && is_digit_of 10 (at rest 1) ≡ false
    → token before start (decimal n ++ rest) ≡ Tok (Int n) start (start + length (decimal n))
number_token before start n rest small ends quote float =
    digits_token before start n (decimal n) rest (decimal_digits n (omega arith)) small ends quote
    float

no_symbol : (k : ℕ) → k < 10 → is_symbol (48 + k) ≡ false
no_symbol k lt = go (is_symbol (48 + k)) (by_bytes (λ k. nat_lt k 10) (λ k. not (is_symbol (48 + k))) tt k (omega arith) (lt-ltb k 10 lt))
  where
    go : (b : Bool) → not b ≡ true → b ≡ false
    go true e = cc
    go false e = refl

minus_before :
    (before : Kind) (start n : ℕ) (ds rest : List ℕ)
    → Digits n ds → token before start (45 ∷ (ds ++ rest)) ≡ Tok Name start (start + 1)
unfolding token
minus_before before start n [] rest h = let some = h.some in absurd (omega arith)
minus_before before start n (d ∷ ds) rest h =
    let other : is_symbol d ≡ false = ap is_symbol h.head.2 ∙ no_symbol h.head.0 h.head.1 in
    let none : prefix_len is_symbol (d ∷ (ds ++ rest)) ≡ 0 = no _ other in
    ap (λ k. Tok Name start (start + (1 + k))) none

pub minus_token :
    (before : Kind) (start n : ℕ) (rest : List ℕ)
    → n ≤ 2 ^ 63 → token before start (45 ∷ (decimal n ++ rest)) ≡ Tok Name start (start + 1)
minus_token before start n rest small =
    minus_before before start n (decimal n) rest (decimal_digits n (omega arith))
