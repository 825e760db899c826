-- Characters inside quotes, and the whole of what is printed between quotes.
use Rattle.std.proofs.Common.{◌≡◌, ℕ, zero, suc, ◌+◌, ◌-◌, ◌/◌, ◌%◌, ◌<◌, ◌≤◌, Bool, true, false, cond, List, [], ◌∷◌, ◌++◌, length, take, drop, refl, sym, ap, ◌∙◌, subst, arith, ◌⊎◌, inl, inr, ⊎_elim, nat_eq, append_assoc, length-append}
use Rattle.std.specs.Prelude.{◌==◌, ◌&&◌, ◌||◌, ◌≢◌, nat_lt, nat_le}
use Rattle.std.specs.List.{flat_map}
use Rattle.std.specs.Str.{IsUtf8}
use lib.Utf8.{scalar, scalars, encode, encodes, scalar_cases}
use Rattle.std.proofs.lemmas.List.{append-nil}
use Rattle.std.proofs.lemmas.Bool.{ne_eqb, lt-ltb, le-ltb, le-leb, lt-leb, eqb-true, ltb-true, ltb-false}
use Rattle.std.proofs.lemmas.Str.{encode_ascii}
use Rattle.std.proofs.lemmas.Grind.{flat_map-append}
use Rattle.mc_program.specs.Printed.{escaped as printed_byte, in_quotes}
use Rattle.mc_tokens.specs.Classes.{between}
use Rattle.mc_tokens.specs.Utf8.{at, char_len, len_of, second, continues}
use Rattle.mc_tokens.specs.Spots.{walk, At, Faulty, Go, Stop, char_turn, Plain, quote_turn, quote_end}
use Rattle.mc_tokens.specs.Contents.{says, contents}
use Rattle.mc_tokens.specs.code.Walks.{quote_walk}
use Rattle.mc_tokens.specs.declared.token.FaultKind.TheVariants.{Unterminated}
use Rattle.mc_tokens.proofs.Quotes.{yes, no, plain, closing}
use Rattle.mc_tokens.proofs.Turns.{took}
use Rattle.laws_print.specs.Laws.{IsQuote}
use Rattle.laws_print.proofs.Escaped.{Passes, byte, said_so}
use Rattle.mc_base.proofs.Booleans.{left_true, right_true}

-- a turn that passes a character of k more bytes
several :
    (p b k : ℕ) (bs : List ℕ) → char_len (b ∷ bs) ≡ k + 1 → char_turn Plain p b bs ≡ Go Plain k
several p b k bs len =
    let some : char_len (b ∷ bs) ≢ 0 = λ z. absurd (omega arith) in
    let back : char_len (b ∷ bs) - 1 ≡ k = omega arith in
    no _ (ne_eqb (char_len (b ∷ bs)) 0 some) ∙ ap (Go Plain) back

walk_past :
    (q start p k : ℕ) (xs ys : List ℕ)
    → length xs ≡ k
    → walk (quote_turn q) (λ m p. Faulty Unterminated start) Plain k p (xs ++ ys)
    ≡ quote_walk q start Plain (p + k) ys
walk_past q start p zero [] ys e =
    let z : p ≡ p + 0 = omega arith in ap (λ i. quote_walk q start Plain i ys) z
walk_past q start p zero (x ∷ xs) ys e = absurd (omega arith)
walk_past q start p (suc k) [] ys e = absurd (omega arith)
walk_past q start p (suc k) (x ∷ xs) ys e =
    walk_past q start (p + 1) k xs ys (omega arith) ∙
    (let z : p + 1 + k ≡ p + suc k = omega arith in ap (λ i. quote_walk q start Plain i ys) z)

says_past :
    (q k : ℕ) (xs ys : List ℕ)
    → length xs ≡ k → contents q Plain k (xs ++ ys) ≡ contents q Plain 0 ys
says_past q zero [] ys e = refl
says_past q zero (x ∷ xs) ys e = absurd (omega arith)
says_past q (suc k) [] ys e = absurd (omega arith)
says_past q (suc k) (x ∷ xs) ys e = says_past q k xs ys (omega arith)

pub take_front : (k : ℕ) (xs ys : List ℕ) → length xs ≡ k → take k (xs ++ ys) ≡ xs
take_front zero [] ys e = refl
take_front zero (x ∷ xs) ys e = absurd (omega arith)
take_front (suc k) [] ys e = absurd (omega arith)
take_front (suc k) (x ∷ xs) ys e = ap (λ l. x ∷ l) (take_front k xs ys (omega arith))

took_whole : (b k : ℕ) (xs ys : List ℕ) → length xs ≡ k → take (k + 1) (b ∷ (xs ++ ys)) ≡ b ∷ xs
took_whole b k xs ys e = let z : k + 1 ≡ suc k = omega arith in ap (λ j. take j (b ∷ (xs ++ ys))) z ∙ ap (λ l. b ∷ l) (take_front k xs ys e)

-- a character of several bytes passes as it is
whole :
    (q start p b k : ℕ) (xs ys : List ℕ)
    → b ≢ q → b ≢ 92 → char_len (b ∷ (xs ++ ys)) ≡ k + 1 → length xs ≡ k
    → Passes q start p ((b ∷ xs) ++ ys) ys (length (b ∷ xs)) (b ∷ xs)
whole q start p b k xs ys n m len long =
    let turn : (r : ℕ) → quote_turn q Plain r b (xs ++ ys) ≡ Go Plain k = λ r. plain q 0 r b (xs ++ ys) n m ∙ several r b k (xs ++ ys) len in
    record {
      walks = ap (took (quote_turn q) (λ m p. Faulty Unterminated start) p (xs ++ ys)) (turn p) ∙ walk_past q start (p + 1) k xs ys long ∙ (let e : p + 1 + k ≡ p + length (b ∷ xs) = omega arith in ap (λ i. quote_walk q start Plain i ys) e);
      says_so =
          said_so q b k Plain Plain (xs ++ ys) (turn 0)
          ∙ ap (λ l. l ++ contents q Plain k (xs ++ ys))
          (no _ (ne_eqb b q n) ∙ no _ (ne_eqb b 92 m) ∙ ap (λ j. take j (b ∷ (xs ++ ys))) len ∙
          took_whole b k xs ys long)
          ∙ ap (λ l. (b ∷ xs) ++ l) (says_past q k xs ys long);
    }

pub and_true : (a b : Bool) → a ≡ true → b ≡ true → a && b ≡ true
and_true true b e h = h
and_true false b e h = cc

among : (lo hi x : ℕ) → lo ≤ x → x ≤ hi → between lo hi x ≡ true
among lo hi x l h = and_true (nat_le lo x) (nat_le x hi) (le-leb lo x l) (le-leb x hi h)

pick : (t A B : Bool) → (t ≡ true → A ≡ true) → (t ≡ false → B ≡ true) → cond t A B ≡ true
pick true A B yes_so no_so = yes_so refl
pick false A B yes_so no_so = no_so refl

second_good :
    (b x : ℕ)
    → (b ≡ 224 → 160 ≤ x) → (b ≡ 237 → x ≤ 159) → (b ≡ 240 → 144 ≤ x) → (b ≡ 244 → x ≤ 143)
    → 128 ≤ x → x ≤ 191 → second b x ≡ true
unfolding second
second_good b x h1 h2 h3 h4 lo hi =
    pick (b == 224) _ _ (λ t. among 160 191 x (h1 (eqb-true b 224 t)) hi)
    (λ f1. pick (b == 237) _ _ (λ t. among 128 159 x lo (h2 (eqb-true b 237 t)))
    (λ f2. pick (b == 240) _ _ (λ t. among 144 191 x (h3 (eqb-true b 240 t)) hi)
    (λ f3. pick (b == 244) _ _ (λ t. among 128 143 x lo (h4 (eqb-true b 244 t)))
    (λ f4. among 128 191 x lo hi))))

pub above : (lo hi x : ℕ) → hi < x → between lo hi x ≡ false
above lo hi x h = and_false (nat_le lo x) (nat_le x hi) (lt-leb x hi h)
  where
    and_false : (a b : Bool) → b ≡ false → a && b ≡ false
    and_false true b e = e
    and_false false b e = refl

len_two :
    (b x : ℕ) (ys : List ℕ) → 194 ≤ b → b ≤ 223 → 128 ≤ x → x ≤ 191 → char_len (b ∷ x ∷ ys) ≡ 2
unfolding char_len len_of
len_two b x ys b1 b2 x1 x2 =
    no _ (le-ltb b 128 (omega arith)) ∙ yes _ (among 194 223 b b1 b2) ∙ yes _
    (among 128 191 x x1 x2)

len_three :
    (b x y : ℕ) (ys : List ℕ)
    → 224 ≤ b → b ≤ 239 → second b x ≡ true → 128 ≤ y → y ≤ 191 → char_len (b ∷ x ∷ y ∷ ys) ≡ 3
unfolding char_len len_of
len_three b x y ys b1 b2 s y1 y2 =
    no _ (le-ltb b 128 (omega arith)) ∙ no _ (above 194 223 b (omega arith)) ∙ yes _
    (among 224 239 b b1 b2) ∙ yes _
    (and_true (second b x) (continues y) s (among 128 191 y y1 y2))

len_four :
    (b x y z : ℕ) (ys : List ℕ)
    → 240 ≤ b → b ≤ 244 → second b x ≡ true → 128 ≤ y → y ≤ 191 → 128 ≤ z → z ≤ 191
    → char_len (b ∷ x ∷ y ∷ z ∷ ys) ≡ 4
unfolding char_len len_of
len_four b x y z ys b1 b2 s y1 y2 z1 z2 =
    no _ (le-ltb b 128 (omega arith)) ∙ no _ (above 194 223 b (omega arith)) ∙ no _
    (above 224 239 b (omega arith)) ∙ yes _ (among 240 244 b b1 b2)
    ∙ yes _
    (and_true (second b x) (continues y && continues z) s
    (and_true (continues y) (continues z) (among 128 191 y y1 y2) (among 128 191 z z1 z2)))

pub neither : (a b : Bool) → a ≡ false → b ≡ false → a || b ≡ false
neither true b e h = cc
neither false b e h = h

-- bytes past ASCII are printed as they are
printed_high : (q b : ℕ) → IsQuote q → 128 ≤ b → printed_byte q b ≡ b ∷ []
printed_high q b is le =
    let small : q < 128 = ⊎_elim (λ e. omega arith) (λ e. omega arith) is in
    let other : b ≢ q = λ e. absurd (omega arith) in
    let n92 : b ≢ 92 = omega arith in
    let no1 : nat_eq b 92 || nat_eq b q ≡ false = neither (nat_eq b 92) (nat_eq b q) (ne_eqb b 92 n92) (ne_eqb b q other) in
    let n127 : b ≢ 127 = omega arith in
    let n10 : b ≢ 10 = omega arith in
    let n9 : b ≢ 9 = omega arith in
    let n32 : 32 ≤ b = omega arith in
    let no4 : nat_lt b 32 || nat_eq b 127 ≡ false = neither (nat_lt b 32) (nat_eq b 127) (le-ltb b 32 n32) (ne_eqb b 127 n127) in
    no _ no1 ∙ no _ (ne_eqb b 10 n10) ∙ no _ (ne_eqb b 9 n9) ∙ no _ no4

one_byte :
    (q start p c : ℕ) (ys : List ℕ)
    → IsQuote q → c < 128
    → Passes q start p (flat_map (printed_byte q) (encode c) ++ ys) ys
    (length (flat_map (printed_byte q) (encode c))) (encode c)
one_byte q start p c ys is lt =
    let P : List ℕ → Type 0 = λ bs. Passes q start p (flat_map (printed_byte q) bs ++ ys) ys (length (flat_map (printed_byte q) bs)) bs in
    let alone : flat_map (printed_byte q) (c ∷ []) ≡ printed_byte q c = append-nil (printed_byte q c) in
    subst P (sym (encode_ascii c lt))
    (subst (λ l. Passes q start p (l ++ ys) ys (length l) (c ∷ [])) (sym alone)
    (byte q start p c ys is lt))

abbrev AllHigh : List ℕ → Type 0
AllHigh [] = Unit {0}
AllHigh (b ∷ bs) = (128 ≤ b) × AllHigh bs

all_high : (q : ℕ) (bs : List ℕ) → IsQuote q → AllHigh bs → flat_map (printed_byte q) bs ≡ bs
all_high q [] is h = refl
all_high q (b ∷ bs) is h =
    ap (λ l. l ++ flat_map (printed_byte q) bs) (printed_high q b is h.0) ∙ ap (λ l. b ∷ l)
    (all_high q bs is h.1)

pub below_or : (m n : ℕ) → (m < n) ⊎ (n ≤ m)
below_or m n = split (nat_lt m n) refl
  where
    split : (t : Bool) → nat_lt m n ≡ t → (m < n) ⊎ (n ≤ m)
    split true e = inl (ltb-true m n e)
    split false e = inr (ltb-false m n e)

high :
    (q start p b k : ℕ) (xs ys : List ℕ)
    → IsQuote q → AllHigh (b ∷ xs) → char_len (b ∷ (xs ++ ys)) ≡ k + 1 → length xs ≡ k
    → Passes q start p (flat_map (printed_byte q) (b ∷ xs) ++ ys) ys
    (length (flat_map (printed_byte q) (b ∷ xs))) (b ∷ xs)
high q start p b k xs ys is h len long =
    let le = h.0 in
    let small : q < 128 = ⊎_elim (λ e. omega arith) (λ e. omega arith) is in
    let n : b ≢ q = λ e. absurd (omega arith) in
    let m : b ≢ 92 = λ e. absurd (omega arith) in
    subst (λ l. Passes q start p (l ++ ys) ys (length l) (b ∷ xs)) (sym (all_high q (b ∷ xs) is h))
    (whole q start p b k xs ys n m len long)

two_bytes :
    (q start p c : ℕ) (ys : List ℕ)
    → IsQuote q → 128 ≤ c → c < 2048
    → Passes q start p (flat_map (printed_byte q) (encode c) ++ ys) ys
    (length (flat_map (printed_byte q) (encode c))) (encode c)
unfolding encode
two_bytes q start p c ys is le lt =
    let P : List ℕ → Type 0 = λ bs. Passes q start p (flat_map (printed_byte q) bs ++ ys) ys (length (flat_map (printed_byte q) bs)) bs in
    let b = 192 + c / 64 in
    let x = 128 + c % 64 in
    let e : encode c ≡ b ∷ x ∷ [] = no _ (le-ltb c 128 le) ∙ yes _ (lt-ltb c 2048 lt) in
    let len : char_len (b ∷ x ∷ ys) ≡ 1 + 1 = len_two b x ys (omega arith) (omega arith) (omega arith) (omega arith) in
    subst P (sym e) (high q start p b 1 (x ∷ []) ys is (omega arith, (omega arith, tt)) len refl)

three_bytes :
    (q start p c : ℕ) (ys : List ℕ)
    → IsQuote q → scalar c ≡ true → 2048 ≤ c → c < 65536
    → Passes q start p (flat_map (printed_byte q) (encode c) ++ ys) ys
    (length (flat_map (printed_byte q) (encode c))) (encode c)
unfolding encode
three_bytes q start p c ys is s le lt =
    let P : List ℕ → Type 0 = λ bs. Passes q start p (flat_map (printed_byte q) bs ++ ys) ys (length (flat_map (printed_byte q) bs)) bs in
    let b = 224 + c / 4096 in
    let x = 128 + c / 64 % 64 in
    let y = 128 + c % 64 in
    let cases = scalar_cases c s in
    let low : 128 ≤ c = omega arith in
    let e : encode c ≡ b ∷ x ∷ y ∷ [] = no _ (le-ltb c 128 low) ∙ no _ (le-ltb c 2048 le) ∙ yes _ (lt-ltb c 65536 lt) in
    let least : b ≡ 224 → 160 ≤ x = λ f. omega arith in
    let surrogate : b ≡ 237 → x ≤ 159 = λ f. ⊎_elim (λ h. omega arith) (λ h. omega arith) cases in
    let good = second_good b x least surrogate (λ f. omega arith) (λ f. omega arith) (omega arith) (omega arith) in
    let len : char_len (b ∷ x ∷ y ∷ ys) ≡ 2 + 1 = len_three b x y ys (omega arith) (omega arith) good (omega arith) (omega arith) in
    subst P (sym e)
    (high q start p b 2 (x ∷ y ∷ []) ys is (omega arith, (omega arith, (omega arith, tt))) len
    refl)

four_bytes :
    (q start p c : ℕ) (ys : List ℕ)
    → IsQuote q → scalar c ≡ true → 65536 ≤ c
    → Passes q start p (flat_map (printed_byte q) (encode c) ++ ys) ys
    (length (flat_map (printed_byte q) (encode c))) (encode c)
unfolding encode
four_bytes q start p c ys is s le =
    let P : List ℕ → Type 0 = λ bs. Passes q start p (flat_map (printed_byte q) bs ++ ys) ys (length (flat_map (printed_byte q) bs)) bs in
    let b = 240 + c / 262144 in
    let x = 128 + c / 4096 % 64 in
    let y = 128 + c / 64 % 64 in
    let z = 128 + c % 64 in
    let high_most : c < 1114112 = ⊎_elim (λ h. omega arith) (λ h. h.1) (scalar_cases c s) in
    let low : 128 ≤ c = omega arith in
    let low2 : 2048 ≤ c = omega arith in
    let e : encode c ≡ b ∷ x ∷ y ∷ z ∷ [] = no _ (le-ltb c 128 low) ∙ no _ (le-ltb c 2048 low2) ∙ no _ (le-ltb c 65536 le) in
    let least : b ≡ 240 → 144 ≤ x = λ f. omega arith in
    let greatest : b ≡ 244 → x ≤ 143 = λ f. omega arith in
    let good = second_good b x (λ f. omega arith) (λ f. omega arith) least greatest (omega arith) (omega arith) in
    let len : char_len (b ∷ x ∷ y ∷ z ∷ ys) ≡ 3 + 1 = len_four b x y z ys (omega arith) (omega arith) good (omega arith) (omega arith) (omega arith) (omega arith) in
    subst P (sym e)
    (high q start p b 3 (x ∷ y ∷ z ∷ []) ys is
    (omega arith, (omega arith, (omega arith, (omega arith, tt)))) len refl)

more_bytes :
    (q start p c : ℕ) (ys : List ℕ)
    → IsQuote q → scalar c ≡ true → 128 ≤ c
    → Passes q start p (flat_map (printed_byte q) (encode c) ++ ys) ys
    (length (flat_map (printed_byte q) (encode c))) (encode c)
more_bytes q start p c ys is s le =
    ⊎_elim (λ lt. two_bytes q start p c ys is le lt)
    (λ le2.
    ⊎_elim (λ lt. three_bytes q start p c ys is s le2 lt)
    (λ le3. four_bytes q start p c ys is s le3) (below_or c 65536))
    (below_or c 2048)

-- a character as it is printed
character :
    (q start p c : ℕ) (ys : List ℕ)
    → IsQuote q → scalar c ≡ true
    → Passes q start p (flat_map (printed_byte q) (encode c) ++ ys) ys
    (length (flat_map (printed_byte q) (encode c))) (encode c)
character q start p c ys is s =
    ⊎_elim (λ lt. one_byte q start p c ys is lt) (λ le. more_bytes q start p c ys is s le)
    (below_or c 128)

-- characters as they are printed
pub characters :
    (q start p : ℕ) (cs ys : List ℕ)
    → IsQuote q → scalars cs ≡ true
    → Passes q start p (flat_map (printed_byte q) (encodes cs) ++ ys) ys
    (length (flat_map (printed_byte q) (encodes cs))) (encodes cs)
characters q start p [] ys is s =
    record { walks = ap (λ n. quote_walk q start Plain n ys) (omega arith); says_so = refl }
characters q start p (c ∷ cs) ys is s =
    let f = flat_map (printed_byte q) in
    let first = character q start p c (f (encodes cs) ++ ys) is (left_true (scalar c) (scalars cs) s) in
    let rest = characters q start (p + length (f (encode c))) cs ys is (right_true (scalar c) (scalars cs) s) in
    let split : f (encode c ++ encodes cs) ++ ys ≡ f (encode c) ++ (f (encodes cs) ++ ys) =
    ap (λ l. l ++ ys) (flat_map-append (printed_byte q) (encode c) (encodes cs)) ∙ append_assoc
    (f (encode c)) (f (encodes cs)) ys in
    let long : p + length (f (encode c)) + length (f (encodes cs)) ≡ p + length (f (encode c ++ encodes cs)) =
    omega (
      arith,
      ap length (flat_map-append (printed_byte q) (encode c) (encodes cs)),
      length-append (f (encode c)) (f (encodes cs)),
    ) in
    record {
      walks =
          ap (quote_walk q start Plain p) split ∙ first.walks ∙ rest.walks ∙ ap
          (λ n. quote_walk q start Plain n ys) long;
      says_so =
          ap (contents q Plain 0) split ∙ first.says_so ∙ ap (λ l. encode c ++ l) rest.says_so ∙ sym
          (append_assoc (encode c) (encodes cs) (contents q Plain 0 ys));
    }

-- the whole of a quote
pub quoted_whole : (q start : ℕ) (bytes rest : List ℕ) → IsQuote q → IsUtf8 bytes → at rest 0 ≢ q
    → (quote_end q start (drop 1 (in_quotes q bytes ++ rest))
    ≡ At (start + length (in_quotes q bytes)))
    × (contents q Plain 0 (drop 1 (in_quotes q bytes ++ rest)) ≡ bytes)
quoted_whole q start bytes rest is utf8 n =
    let f = flat_map (printed_byte q) in
    let cs = utf8.0 in
    let e : encodes cs ≡ bytes = utf8.1.1 in
    let F = f (encodes cs) in
    let body : drop 1 (in_quotes q bytes ++ rest) ≡ F ++ (q ∷ rest) = ap (λ bs. (f bs ++ (q ∷ [])) ++ rest) (sym e) ∙ append_assoc F (q ∷ []) rest in
    let passes = characters q start (start + 1) cs (q ∷ rest) is utf8.1.0 in
    let stop : quote_walk q start Plain (start + 1 + length F) (q ∷ rest) ≡ At (start + 1 + length F + 1) =
    ap (took (quote_turn q) (λ m p. Faulty Unterminated start) (start + 1 + length F) rest)
    (closing q 0 (start + 1 + length F) q rest refl n) in
    let long : start + 1 + length F + 1 ≡ start + length (in_quotes q bytes) =
    omega (arith, ap (λ bs. length (f bs ++ (q ∷ []))) e, length-append F (q ∷ [])) in
    let nothing : contents q Plain 0 (q ∷ rest) ≡ [] = ap (λ t. elim t [ Go m past ↦ says q Plain q rest ++ contents q m past rest | Stop s ↦ [] ]) (closing q 0 0 q rest refl n) in (
      ap (quote_walk q start Plain (start + 1)) body ∙ passes.walks ∙ stop ∙ ap At long,
      ap (contents q Plain 0) body ∙ passes.says_so ∙ ap (λ l. encodes cs ++ l) nothing ∙ append-nil
          (encodes cs) ∙ e,
    )
