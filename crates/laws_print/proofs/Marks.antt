-- Printed names, numbers, strings and marks as tokens of an item.
use Rattle.std.proofs.Common.{◌≡◌, ℕ, ◌+◌, ◌<◌, ◌≤◌, ◌^◌, Bool, true, false, cond, List, [], ◌∷◌, ◌++◌, length, refl, sym, ap, ◌∙◌, arith, not, ℤ, pos, negsuc, ◌/◌, ◌%◌, ◌⊎◌, inl, inr, ⊎_elim}
use Rattle.std.specs.Prelude.{◌==◌, ◌&&◌, ◌||◌, ◌≢◌, nat_lt, nat_le, nat_eq, decimal, codes, IsUtf8}
use Rattle.std.specs.List.{list_all, flat_map}
use Rattle.std.specs.Fmt.{signed_decimal}
use Rattle.std.proofs.lemmas.Bool.{eqb-true, lt-ltb, ltb-true, leb-true}
use Rattle.std.proofs.lemmas.List.Folds.{list_all-append}
use Rattle.std.proofs.lemmas.List.{get_or_append_left}
use Rattle.mc_program.specs.Printed.{in_quotes, is_bare, is_lower, is_word_byte, name_text, single_quote, double_quote, hex_digit}
use Rattle.mc_program.specs.Printed.{escaped as printed_byte}
use Rattle.mc_tokens.specs.Classes.{is_name_tail, is_digit_of, is_blank}
use Rattle.mc_tokens.specs.Classes.{is_lower as starts_name}
use Rattle.mc_tokens.specs.Utf8.{at}
use Rattle.mc_tokens.specs.Tokens.{Tok, token, is_int, names, ends_item}
use Rattle.mc_tokens.specs.Contents.{stands_for}
use Rattle.mc_tokens.specs.Items.{ends}
use Rattle.mc_tokens.specs.declared.token.Kind.{Kind}
use Rattle.mc_tokens.specs.declared.token.Kind.TheVariants as K
use Rattle.mc_tokens.proofs.Quotes.{yes, no}
use Rattle.mc_tokens.proofs.Escapes.{by_bytes}
use Rattle.mc_term_parser.specs.declared.lexeme.Lexeme.{Lexeme}
use Rattle.mc_term_parser.specs.declared.lexeme.Lexeme.TheVariants as L
use Rattle.mc_terms.specs.code.Walked.{with_name}
use Rattle.laws_print.specs.Terms.{Is64}
use Rattle.laws_print.proofs.Characters.{and_true, neither}
use Rattle.laws_print.proofs.Tokens.{decimal_digits, bare_token, name_token, name_says, string_token, string_says, number_token, minus_token}
use Rattle.laws_print.proofs.Cursor.{not_true, Cursor, stays, one_line, is_firm, Spells, Adds, spells_bytes, spells_end, lexed_here}
use Rattle.mc_base.proofs.Booleans.{left_true, right_true}

-- bytes that end no line
all_map :
    (p q : ℕ → Bool)
    → ((x : ℕ) → p x ≡ true → q x ≡ true) → (xs : List ℕ) → list_all p xs ≡ true
    → list_all q xs ≡ true
all_map p q f [] h = refl
all_map p q f (x ∷ xs) h =
    and_true (q x) (list_all q xs) (f x (left_true (p x) (list_all p xs) h))
    (all_map p q f xs (right_true (p x) (list_all p xs) h))

all_append :
    (p : ℕ → Bool) (xs ys : List ℕ)
    → list_all p xs ≡ true → list_all p ys ≡ true → list_all p (xs ++ ys) ≡ true
all_append p xs ys h e = list_all-append p xs ys ∙ and_true (list_all p xs) (list_all p ys) h e

stays_if : (p : ℕ → Bool) → p 10 ≡ false → (x : ℕ) → p x ≡ true → stays x ≡ true
stays_if p f x h = go (x == 10) refl
  where
    go : (t : Bool) → (x == 10) ≡ t → not t ≡ true
    go false e = refl
    go true e = let same = sym h ∙ ap p (eqb-true x 10 e) ∙ f in cc

digit_stays : (d : ℕ) → d < 16 → stays (hex_digit d) ≡ true
digit_stays d lt =
    by_bytes (λ d. nat_lt d 16) (λ d. stays (hex_digit d)) tt d (omega arith) (lt-ltb d 16 lt)

or_cases : (a b : Bool) → a || b ≡ true → (a ≡ true) ⊎ (b ≡ true)
or_cases true b h = inl refl
or_cases false b h = inr h

either :
    (t : Bool) (x y : List ℕ)
    → (t ≡ true → one_line x ≡ true) → (t ≡ false → one_line y ≡ true)
    → one_line (cond t x y) ≡ true
either true x y f g = f refl
either false x y f g = g refl

control_small : (b : ℕ) → nat_lt b 32 || nat_eq b 127 ≡ true → b < 128
control_small b h =
    ⊎_elim (λ e. let l = ltb-true b 32 e in omega arith)
    (λ e. let l = eqb-true b 127 e in omega arith) (or_cases (nat_lt b 32) (nat_eq b 127) h)

printed_stays : (q b : ℕ) → stays q ≡ true → one_line (printed_byte q b) ≡ true
printed_stays q b s =
    either (nat_eq b 92 || nat_eq b q) _ _ marked
    (λ n.
    either (nat_eq b 10) _ _ (λ e. refl)
    (λ other.
    either (nat_eq b 9) _ _ (λ e. refl)
    (λ n.
    either (nat_lt b 32 || nat_eq b 127) _ _ numbered
    (λ n. and_true (stays b) true (ap not other) refl))))
  where
    marked : nat_eq b 92 || nat_eq b q ≡ true → one_line (92 ∷ b ∷ []) ≡ true
    marked h =
        let itself : stays b ≡ true = ⊎_elim (λ e. ap stays (eqb-true b 92 e)) (λ e. ap stays (eqb-true b q e) ∙ s) (or_cases (nat_eq b 92) (nat_eq b q) h) in
        and_true (stays b) true itself refl

    numbered :
        nat_lt b 32 || nat_eq b 127 ≡ true
        → one_line (codes "\\x" ++ (hex_digit (b / 16) ∷ hex_digit (b % 16) ∷ codes "\\")) ≡ true
    numbered h =
        let small = control_small b h in
        and_true (stays (hex_digit (b / 16))) _ (digit_stays (b / 16) (omega arith))
        (and_true (stays (hex_digit (b % 16))) true (digit_stays (b % 16) (omega arith)) refl)

all_printed :
    (q : ℕ) (bytes : List ℕ) → stays q ≡ true → one_line (flat_map (printed_byte q) bytes) ≡ true
all_printed q [] s = refl
all_printed q (b ∷ bs) s =
    all_append stays (printed_byte q b) (flat_map (printed_byte q) bs) (printed_stays q b s)
    (all_printed q bs s)

pub quotes_one_line :
    (q : ℕ) (bytes : List ℕ) → stays q ≡ true → one_line (in_quotes q bytes) ≡ true
quotes_one_line q bytes s =
    and_true (stays q) (one_line (flat_map (printed_byte q) bytes ++ (q ∷ []))) s
    (all_append stays (flat_map (printed_byte q) bytes) (q ∷ []) (all_printed q bytes s)
    (and_true (stays q) true s refl))

pub decimal_one_line : (n : ℕ) → n < 2 ^ 64 → one_line (decimal n) ≡ true
decimal_one_line n lt =
    all_map (is_digit_of 10) stays (stays_if (is_digit_of 10) refl) (decimal n)
    (decimal_digits n lt).all

bare_one_line : (name : List ℕ) → is_bare name ≡ true → one_line name ≡ true
bare_one_line [] h = cc
bare_one_line (b ∷ bs) h =
    and_true (stays b) (one_line bs)
    (stays_if is_lower refl b (left_true (is_lower b) (list_all is_word_byte bs) h))
    (all_map is_word_byte stays (stays_if is_word_byte refl) bs
    (right_true (is_lower b) (list_all is_word_byte bs) h))

-- first bytes
lower_firm : (b : ℕ) → is_lower b ≡ true → is_firm b ≡ true
lower_firm b h =
    let high = leb-true b 122 (right_true (nat_le 97 b) (nat_le b 122) h) in
    by_bytes is_lower is_firm tt b (omega arith) h

digit_firm : (k : ℕ) → k < 10 → is_firm (48 + k) ≡ true
digit_firm k lt =
    by_bytes (λ k. nat_lt k 10) (λ k. is_firm (48 + k)) tt k (omega arith) (lt-ltb k 10 lt)

pub decimal_firm : (n : ℕ) (rest : List ℕ) → n < 2 ^ 64 → is_firm (at (decimal n ++ rest) 0) ≡ true
decimal_firm n rest lt =
    let h = decimal_digits n lt in
    ap is_firm (get_or_append_left (decimal n) rest 0 0 h.some ∙ h.head.2) ∙ digit_firm h.head.0
    h.head.1

bare_firm : (name rest : List ℕ) → is_bare name ≡ true → is_firm (at (name ++ rest) 0) ≡ true
bare_firm [] rest h = cc
bare_firm (b ∷ bs) rest h = lower_firm b (left_true (is_lower b) (list_all is_word_byte bs) h)

pub name_firm : (name rest : List ℕ) → is_firm (at (name_text name ++ rest) 0) ≡ true
name_firm name rest = go (is_bare name) refl
  where
    go :
        (t : Bool)
        → is_bare name ≡ t
        → is_firm (at (cond t name (in_quotes single_quote name) ++ rest) 0) ≡ true
    go true h = bare_firm name rest h
    go false h = refl

pub integer_firm :
    (n : ℤ) (rest : List ℕ) → Is64 n → is_firm (at (signed_decimal n ++ rest) 0) ≡ true
integer_firm (pos n) rest lt = decimal_firm n rest (omega arith)
integer_firm (negsuc n) rest lt = refl

-- what may stand behind a token: no byte that would go on with it
pub record Follows (rest : List ℕ) : Type 0 where
  pub no_tail : is_name_tail (at rest 0) ≡ false
  pub no_single : at rest 0 ≢ 39
  pub no_double : at rest 0 ≢ 34
  pub no_fraction : (at rest 0 == 46) && is_digit_of 10 (at rest 1) ≡ false

-- The tokens from a place on, after a token of any kind.
abbrev pub Onward : List ℕ → ℕ → List ℕ → List Lexeme → ℕ → Type 0
Onward text line rest ts last =
    (k : Kind) (place : ℕ) → Cursor text line place rest → Spells text place k ts last

module _ (text : List ℕ) (line last : ℕ) where
  pub spells_number :
      (place n : ℕ) (k : Kind) (rest : List ℕ) (ts : List Lexeme)
      → n ≤ 2 ^ 63 → Follows rest → Cursor text line place (decimal n ++ rest)
      → Onward text line rest ts last → Spells text place k (L.Int n line ∷ ts) last
  spells_number place n k rest ts small f c more =
      spells_bytes text line place last k (K.Int n) (decimal n) rest (L.Int n line) ts
      (decimal_firm n rest (omega arith)) (decimal_one_line n (omega arith))
      (number_token k place n rest small f.no_tail f.no_single f.no_fraction) refl
      (λ done q. (refl, refl)) c (more (K.Int n) (place + length (decimal n)))

  pub spells_minus : (place n : ℕ) (k : Kind) (rest : List ℕ) (ts : List Lexeme) → n ≤ 2 ^ 63 → Cursor text line place (45 ∷ (decimal n ++ rest)) → Onward text line (decimal n ++ rest) ts last
      → Spells text place k (L.Word (codes "-") false line ∷ ts) last
  spells_minus place n k rest ts small c more =
      spells_bytes text line place last k K.Name (45 ∷ []) (decimal n ++ rest)
      (L.Word (codes "-") false line) ts refl refl (minus_token k place n rest small) refl
      (λ done q. (ap (λ r. with_name r done (codes "-") false line) q, refl)) c
      (more K.Name (place + 1))

  pub spells_string : (place : ℕ) (k : Kind) (bytes rest : List ℕ) (ts : List Lexeme) → IsUtf8 bytes → Follows rest → Cursor text line place (in_quotes double_quote bytes ++ rest) → Onward text line rest ts last
      → Spells text place k (L.Str bytes line ∷ ts) last
  spells_string place k bytes rest ts utf8 f c more =
      spells_bytes text line place last k K.Str (in_quotes 34 bytes) rest (L.Str bytes line) ts refl
      (quotes_one_line 34 bytes refl) (string_token k place bytes rest utf8 f.no_double) refl
      (λ done q. (ap (λ w. L.Str w line ∷ done) (string_says bytes utf8), refl)) c
      (more K.Str (place + length (in_quotes 34 bytes)))

  -- a name, before what stands after a token that is a name
  abbrev pub NameOnward : List ℕ → List Lexeme → Type 0
  NameOnward rest ts =
      (k : Kind) (place : ℕ)
      → names k ≡ true → Cursor text line place rest → Spells text place k ts last

  pub spells_bare : (place : ℕ) (k : Kind) (name rest : List ℕ) (ts : List Lexeme) → is_bare name ≡ true → is_int k ≡ false → is_name_tail (at rest 0) ≡ false → Cursor text line place (name ++ rest) → NameOnward rest ts
      → Spells text place k (L.Word name false line ∷ ts) last
  spells_bare place k name rest ts bare free tail c more =
      spells_bytes text line place last k K.Name name rest (L.Word name false line) ts
      (bare_firm name rest bare) (bare_one_line name bare)
      (bare_token k place name rest bare free tail) refl
      (λ done q. (ap (λ r. with_name r done name false line) q, refl)) c
      (more K.Name (place + length name) refl)

  pub spells_quoted : (place : ℕ) (k : Kind) (name rest : List ℕ) (ts : List Lexeme) → IsUtf8 name → at rest 0 ≢ 39 → Cursor text line place (in_quotes single_quote name ++ rest) → NameOnward rest ts
      → Spells text place k (L.Word name true line ∷ ts) last
  spells_quoted place k name rest ts utf8 other c more =
      spells_bytes text line place last k K.Quoted (in_quotes 39 name) rest (L.Word name true line)
      ts refl (quotes_one_line 39 name refl) (name_token k place name rest utf8 other) refl
      (λ done q. (
        ap (λ r. with_name r done (stands_for K.Quoted (in_quotes 39 name)) true line) q ∙ ap
            (λ w. L.Word w true line ∷ done) (name_says name utf8),
        refl,
      ))
      c (more K.Quoted (place + length (in_quotes 39 name)) refl)

  -- a name as it is printed, bare or in quotes
  pub spells_name : (place : ℕ) (k : Kind) (name rest : List ℕ) (ts : List Lexeme) → IsUtf8 name → is_int k ≡ false → is_name_tail (at rest 0) ≡ false → at rest 0 ≢ 39 → Cursor text line place (name_text name ++ rest) → NameOnward rest ts
      → Spells text place k (L.Word name (not (is_bare name)) line ∷ ts) last
  spells_name place k name rest ts utf8 free tail other = go (is_bare name) refl
    where
      go :
          (t : Bool)
          → is_bare name ≡ t
          → Cursor text line place (cond t name (in_quotes single_quote name) ++ rest)
          → NameOnward rest ts → Spells text place k (L.Word name (not t) line ∷ ts) last
      go true bare c more = spells_bare place k name rest ts bare free tail c more
      go false bare c more = spells_quoted place k name rest ts utf8 other c more

  -- a token of one byte
  spells_mark : (place : ℕ) (k e : Kind) (b : ℕ) (rest : List ℕ) (x : Lexeme) (ts : List Lexeme) → is_firm b ≡ true → stays b ≡ true → token k place (b ∷ rest) ≡ Tok e place (place + 1) → ends e ≡ false → Adds e (stands_for e (b ∷ [])) line x
      → Cursor text line place (b ∷ rest) → Onward text line rest ts last
      → Spells text place k (x ∷ ts) last
  spells_mark place k e b rest x ts f s t h adds c more =
      spells_bytes text line place last k e (b ∷ []) rest x ts f (and_true (stays b) true s refl) t
      h adds c (more e (place + 1))

  -- the bracket directly behind a name
  pub spells_open :
      (place : ℕ) (k : Kind) (rest : List ℕ) (ts : List Lexeme)
      → names k ≡ true → Cursor text line place (40 ∷ rest)
      → ((p : ℕ) → Cursor text line p rest → Spells text p K.OpenCt ts last)
      → Spells text place k (L.OpenCt line ∷ ts) last
  unfolding token
  spells_open place k rest ts name c more =
      spells_bytes text line place last k K.OpenCt (40 ∷ []) rest (L.OpenCt line) ts refl refl
      (yes _ name) refl (λ done q. (refl, refl)) c (more (place + 1))

  pub spells_close :
      (place : ℕ) (k : Kind) (rest : List ℕ) (ts : List Lexeme)
      → Cursor text line place (41 ∷ rest) → Onward text line rest ts last
      → Spells text place k (L.Close ∷ ts) last
  unfolding token
  spells_close place k rest ts =
      spells_mark place k K.Close 41 rest L.Close ts refl refl refl refl (λ done q. (refl, refl))

  pub spells_list_open :
      (place : ℕ) (k : Kind) (rest : List ℕ) (ts : List Lexeme)
      → Cursor text line place (91 ∷ rest)
      → ((p : ℕ) → Cursor text line p rest → Spells text p K.ListOpen ts last)
      → Spells text place k (L.ListOpen line ∷ ts) last
  unfolding token
  spells_list_open place k rest ts c more =
      spells_bytes text line place last k K.ListOpen (91 ∷ []) rest (L.ListOpen line) ts refl refl
      refl refl (λ done q. (refl, refl)) c (more (place + 1))

  pub spells_list_close :
      (place : ℕ) (k : Kind) (rest : List ℕ) (ts : List Lexeme)
      → Cursor text line place (93 ∷ rest) → Onward text line rest ts last
      → Spells text place k (L.ListClose ∷ ts) last
  unfolding token
  spells_list_close place k rest ts =
      spells_mark place k K.ListClose 93 rest L.ListClose ts refl refl refl refl
      (λ done q. (refl, refl))

  pub spells_bar :
      (place : ℕ) (k : Kind) (rest : List ℕ) (ts : List Lexeme)
      → Cursor text line place (124 ∷ rest) → Onward text line rest ts last
      → Spells text place k (L.Bar ∷ ts) last
  unfolding token
  spells_bar place k rest ts =
      spells_mark place k K.Bar 124 rest L.Bar ts refl refl refl refl (λ done q. (refl, refl))

  pub spells_comma :
      (place : ℕ) (k : Kind) (rest : List ℕ) (ts : List Lexeme)
      → Cursor text line place (44 ∷ rest) → Onward text line rest ts last
      → Spells text place k (L.Comma ∷ ts) last
  unfolding token
  spells_comma place k rest ts =
      spells_mark place k K.Comma 44 rest L.Comma ts refl refl refl refl (λ done q. (refl, refl))

-- a full stop that ends an item
abbrev ends_by : ℕ → Bool
ends_by b = is_blank b || (b == 37)

abbrev parts_by : ℕ → Bool
parts_by b = not (is_digit_of 10 b) && (not (starts_name b) && not (b == 39))

ending_small : (b : ℕ) → ends_by b ≡ true → b < 256
ending_small b h =
    ⊎_elim
    (λ blank.
    ⊎_elim (λ e. let l = leb-true b 13 (right_true (nat_le 9 b) (nat_le b 13) e) in omega arith)
    (λ e. let l = eqb-true b 32 e in omega arith)
    (or_cases (nat_le 9 b && nat_le b 13) (b == 32) blank))
    (λ e. let l = eqb-true b 37 e in omega arith) (or_cases (is_blank b) (b == 37) h)

ending : (rest : List ℕ) → ends_item rest ≡ true → parts_by (at rest 0) ≡ true
ending [] h = refl
ending (b ∷ bs) h = by_bytes ends_by parts_by tt b (ending_small b h) h

pub follows_stop : (rest : List ℕ) → ends_item rest ≡ true → Follows (46 ∷ rest)
follows_stop rest h = record {
  no_tail = refl;
  no_single = omega arith;
  no_double = omega arith;
  no_fraction =
      not_true (is_digit_of 10 (at rest 0))
      (left_true (not (is_digit_of 10 (at rest 0))) _ (ending rest h));
}

pub spells_stop :
    (text : List ℕ) (line place : ℕ) (k : Kind) (rest : List ℕ)
    → ends_item rest ≡ true → Cursor text line place (46 ∷ rest)
    → Spells text place k [] (place + 1)
unfolding token
spells_stop text line place k rest h c =
    let parts = right_true (not (is_digit_of 10 (at rest 0))) (not (starts_name (at rest 0)) && not (at rest 0 == 39)) (ending rest h) in
    let lower = not_true (starts_name (at rest 0)) (left_true (not (starts_name (at rest 0))) (not (at rest 0 == 39)) parts) in
    let quote = not_true (at rest 0 == 39) (right_true (not (starts_name (at rest 0))) (not (at rest 0 == 39)) parts) in
    let no_joint : names k && (starts_name (at rest 0) || (at rest 0 == 39)) ≡ false = and_no (names k) (starts_name (at rest 0) || (at rest 0 == 39)) (neither (starts_name (at rest 0)) (at rest 0 == 39) lower quote) in
    spells_end text place place (place + 1) k
    (lexed_here text line place k (46 ∷ rest) c refl ∙ no _ no_joint ∙ yes _ h)
  where
    and_no : (a b : Bool) → b ≡ false → a && b ≡ false
    and_no true b e = e
    and_no false b e = refl
