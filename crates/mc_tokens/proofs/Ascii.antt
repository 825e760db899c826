-- Names and variables without quotes are ASCII.
use Rattle.std.proofs.Common.{◌≡◌, ℕ, zero, suc, ◌+◌, ◌-◌, ◌^◌, ◌<◌, ◌≤◌, Bool, true, false, cond, not, List, ◌∷◌, length, get_or, take, drop, refl, sym, ap, ◌∙◌, subst, ⊎_elim, arith}
use Rattle.std.specs.Prelude.{◌==◌, ◌&&◌, ◌||◌, nat_lt, slice_range}
use Rattle.std.specs.Str.{IsAscii}
use Rattle.std.specs.List.{prefix_len}
use Rattle.std.proofs.str.Laws.{order}
use Rattle.std.proofs.lemmas.List.{get_or-take, get_or_past, length-take, get_or-drop}
use Rattle.std.proofs.lemmas.List.Sums.{prefix_len_passes}
use Rattle.std.proofs.lemmas.Bool.{eqb-true, ltb-true}
use Rattle.mc_tokens.specs.Classes.{is_name_tail, is_symbol, is_digit_of, starts_var, is_lower}
use Rattle.mc_tokens.specs.Utf8.{at, char_len}
use Rattle.mc_tokens.specs.Spots.{Spot, At, Faulty, quote_end}
use Rattle.mc_tokens.specs.Tokens.{Lexed, Tok, Fault, spelled, first, begun, token, digits, of_form, form, number, quoted, names, is_int, is_var, ends_item}
use Rattle.mc_tokens.specs.Answers.{AsciiName}
use Rattle.mc_tokens.specs.declared.begins.First.{First}
use Rattle.mc_tokens.specs.declared.begins.First.TheVariants.{Lower, Upper, Digit, Symbol, Quote, DoubleQuote, Paren, CloseParen, Square, CloseSquare, Semicolon, Bang, Other}
use Rattle.mc_tokens.specs.declared.begins.First.TheVariants as F
use Rattle.mc_tokens.specs.declared.begins.Form.{Form}
use Rattle.mc_tokens.specs.declared.begins.Form.TheVariants.{Based, Character, Decimal}
use Rattle.mc_tokens.specs.declared.token.FaultKind.TheVariants.{BadChar, LeftOut, IntTooLarge, NotUtf8}
use Rattle.mc_tokens.specs.declared.token.Kind.{Kind}
use Rattle.mc_tokens.specs.declared.token.Kind.TheVariants.{Name, Quoted, Var, Int, Str, Open, OpenCt, Close, ListOpen, ListClose, Bar, Comma, Dot, End, Eof}
use Rattle.mc_tokens.proofs.Begun.{at_end, token_is}
use Rattle.mc_tokens.proofs.CharLen.{drop-at}
use Rattle.mc_tokens.proofs.Escapes.{by_bytes}
use Rattle.mc_base.proofs.Booleans.{left_true}

-- each byte of a text is one
abbrev pub Bytes : List ℕ → Type 0
Bytes text = (i : ℕ) → get_or text i 0 < 256

-- a class all of whose bytes are ASCII
abbrev IsAsciiClass : (ℕ → Bool) → Type 0
IsAsciiClass q = (x : ℕ) → x < 256 → q x ≡ true → nat_lt x 128 ≡ true

name_tails : IsAsciiClass is_name_tail
name_tails = by_bytes is_name_tail (λ x. nat_lt x 128) tt

symbols : IsAsciiClass is_symbol
symbols = by_bytes is_symbol (λ x. nat_lt x 128) tt

abbrev is_other : First → Bool
is_other Other = true
is_other _ = false

begins_ascii : IsAsciiClass (λ x. not (is_other (first x)))
begins_ascii = by_bytes (λ x. not (is_other (first x))) (λ x. nat_lt x 128) tt

-- the first bytes of a list, where each is ASCII
ascii_front : (n : ℕ) (bs : List ℕ) → ((i : ℕ) → i < n → get_or bs i 0 < 128) → IsAscii (take n bs)
ascii_front n bs h i =
    ⊎_elim (λ lt. let e = get_or-take n bs i 0 lt in omega (arith, e, h i lt))
    (λ le. let e = get_or_past (take n bs) i 0 (omega (arith, length-take {A = ℕ})) in omega (arith, e)) (order i n)

-- a byte and the run after it
ascii_run : (q : ℕ → Bool) → IsAsciiClass q → (b : ℕ) (bs : List ℕ) → b < 128 → Bytes bs → IsAscii (take (1 + prefix_len q bs) (b ∷ bs))
ascii_run q c b bs h k = ascii_front (1 + prefix_len q bs) (b ∷ bs) each
  where
    each : (i : ℕ) → i < 1 + prefix_len q bs → get_or (b ∷ bs) i 0 < 128
    each zero l = h
    each (suc i) l = ltb-true (get_or bs i 0) 128 (c (get_or bs i 0) (k i) (prefix_len_passes q bs i 0 (omega arith)))

abbrev kind_of : Lexed → Kind
kind_of (Tok e start stop) = e
kind_of (Fault f place) = Eof

abbrev stop_of : Lexed → ℕ
stop_of (Tok e start stop) = stop
stop_of (Fault f place) = 0

module _ (start b : ℕ) (bs : List ℕ) (kind : Kind) (stop : ℕ) where
  abbrev Goal : Type 0
  Goal = AsciiName kind (take (stop - start) (b ∷ bs))

  -- a token of a kind and an end
  made : (k : Kind) (n : ℕ) → Tok k start n ≡ Tok kind start stop → AsciiName k (take (n - start) (b ∷ bs)) → Goal
  made k n e h = subst (λ (m : ℕ). AsciiName kind (take (m - start) (b ∷ bs))) (ap stop_of e) (subst (λ (k : Kind). AsciiName k (take (n - start) (b ∷ bs))) (ap kind_of e) h)

  number_case : (base n : ℕ) (ds : List ℕ) → number base start n ds ≡ Tok kind start stop → Goal
  number_case base n ds e = go (nat_lt (2 ^ 63) (spelled base 0 ds)) e
    where
      go : (t : Bool) → cond t (Fault IntTooLarge start) (Tok (Int (spelled base 0 ds)) start n) ≡ Tok kind start stop → Goal
      go true e = cc
      go false e = made (Int (spelled base 0 ds)) n e tt

  digits_case : digits start (b ∷ bs) ≡ Tok kind start stop → Goal
  unfolding digits
  digits_case e = go (form (b ∷ bs)) e
    where
      decimal_case : (n : ℕ) (t : Bool) → cond t (Fault LeftOut start) (number 10 start (start + n) (take n (b ∷ bs))) ≡ Tok kind start stop → Goal
      decimal_case n true e = cc
      decimal_case n false e = number_case 10 (start + n) (take n (b ∷ bs)) e

      go : (f : Form) → of_form f start (b ∷ bs) ≡ Tok kind start stop → Goal
      go (Based base) e =
          let n = prefix_len (is_digit_of base) (drop 2 (b ∷ bs)) in
          number_case base (start + (2 + n)) (take n (drop 2 (b ∷ bs))) e
      go Character e = made (Int (at (b ∷ bs) 2)) (start + 3) e tt
      go Decimal e =
          let n = prefix_len (is_digit_of 10) (b ∷ bs) in
          decimal_case n ((at (b ∷ bs) n == 46) && is_digit_of 10 (at (b ∷ bs) (n + 1))) e

  quoted_case : (k : Kind) → ((bytes : List ℕ) → AsciiName k bytes) → (s : Spot) → quoted k s start ≡ Tok kind start stop → Goal
  quoted_case k h (At place) e = made k place e (h (take (place - start) (b ∷ bs)))
  quoted_case k h (Faulty f place) e = cc

  run_ascii : (q : ℕ → Bool) → IsAsciiClass q → b < 128 → Bytes bs → IsAscii (take (start + (1 + prefix_len q bs) - start) (b ∷ bs))
  run_ascii q c h k =
      let count : 1 + prefix_len q bs ≡ start + (1 + prefix_len q bs) - start = omega arith in
      subst (λ (n : ℕ). IsAscii (take n (b ∷ bs))) count (ascii_run q c b bs h k)

  one_ascii : b < 128 → IsAscii (take (start + 1 - start) (b ∷ bs))
  one_ascii h =
      let count : 1 ≡ start + 1 - start = omega arith in
      subst (λ (n : ℕ). IsAscii (take n (b ∷ bs))) count (ascii_front 1 (b ∷ bs) each)
    where
      each : (i : ℕ) → i < 1 → get_or (b ∷ bs) i 0 < 128
      each zero l = h
      each (suc i) l = absurd (omega arith)

  two_ascii : b < 128 → at bs 0 < 128 → IsAscii (take (start + 2 - start) (b ∷ bs))
  two_ascii h k =
      let count : 2 ≡ start + 2 - start = omega arith in
      subst (λ (n : ℕ). IsAscii (take n (b ∷ bs))) count (ascii_front 2 (b ∷ bs) each)
    where
      each : (i : ℕ) → i < 2 → get_or (b ∷ bs) i 0 < 128
      each zero l = h
      each (suc zero) l = k
      each (suc (suc i)) l = absurd (omega arith)

  word_case : (k : Kind) → (b < 128 → Bytes bs → AsciiName k (take (start + (1 + prefix_len is_name_tail bs) - start) (b ∷ bs))) → b < 128 → Bytes bs → (t : Bool) → cond t (Fault LeftOut start) (Tok k start (start + (1 + prefix_len is_name_tail bs))) ≡ Tok kind start stop → Goal
  word_case k h small bytes true e = cc
  word_case k h small bytes false e = made k (start + (1 + prefix_len is_name_tail bs)) e (h small bytes)

  paren_case : (t u : Bool) → cond t (Tok OpenCt start (start + 1)) (cond u (Fault LeftOut start) (Tok Open start (start + 1))) ≡ Tok kind start stop → Goal
  paren_case true u e = made OpenCt (start + 1) e tt
  paren_case false true e = cc
  paren_case false false e = made Open (start + 1) e tt

  dot_case : (t u : Bool) → cond t (Tok Dot start (start + 1)) (cond u (Tok End start (start + 1)) (Fault BadChar start)) ≡ Tok kind start stop → Goal
  dot_case true u e = made Dot (start + 1) e tt
  dot_case false true e = made End (start + 1) e tt
  dot_case false false e = cc

  mark_small : ((at bs 0 == 46) || (at bs 0 == 58)) ≡ true → at bs 0 < 128
  mark_small = go (at bs 0 == 46) (at bs 0 == 58) refl refl
    where
      go : (t u : Bool) → (at bs 0 == 46) ≡ t → (at bs 0 == 58) ≡ u → t || u ≡ true → at bs 0 < 128
      go true u e f h = let is : at bs 0 ≡ 46 = eqb-true (at bs 0) 46 e in omega arith
      go false true e f h = let is : at bs 0 ≡ 58 = eqb-true (at bs 0) 58 f in omega arith
      go false false e f h = cc

  bang_case : b < 128 → (t : Bool) → (t ≡ true → at bs 0 < 128) → cond t (Tok Name start (start + 2)) (Tok Name start (start + 1)) ≡ Tok kind start stop → Goal
  bang_case small true h e = made Name (start + 2) e (two_ascii small (h refl))
  bang_case small false h e = made Name (start + 1) e (one_ascii small)

  other_case : (t : Bool) → cond t (Fault NotUtf8 start) (Fault BadChar start) ≡ Tok kind start stop → Goal
  other_case true e = cc
  other_case false e = cc

  begun_case : (before : Kind) (f : First) → (not (is_other f) ≡ true → b < 128) → Bytes bs → begun before start b bs f ≡ Tok kind start stop → Goal
  begun_case before Lower h k e = word_case Name (run_ascii is_name_tail name_tails) (h refl) k (is_int before) e
  begun_case before Upper h k e = word_case Var (run_ascii is_name_tail name_tails) (h refl) k (is_int before) e
  begun_case before Digit h k e = digits_case e
  begun_case before Symbol h k e = made Name (start + (1 + prefix_len is_symbol bs)) e (run_ascii is_symbol symbols (h refl) k)
  begun_case before Quote h k e = quoted_case Quoted (λ bytes. tt) (quote_end 39 start bs) e
  begun_case before DoubleQuote h k e = quoted_case Str (λ bytes. tt) (quote_end 34 start bs) e
  begun_case before Paren h k e = paren_case (names before) (is_var before) e
  begun_case before CloseParen h k e = made Close (start + 1) e tt
  begun_case before Square h k e = made ListOpen (start + 1) e tt
  begun_case before CloseSquare h k e = made ListClose (start + 1) e tt
  begun_case before F.Bar h k e = made Bar (start + 1) e tt
  begun_case before F.Comma h k e = made Comma (start + 1) e tt
  begun_case before F.Dot h k e = dot_case (names before && (is_lower (at bs 0) || (at bs 0 == 39))) (ends_item bs) e
  begun_case before Semicolon h k e = made Name (start + 1) e (one_ascii (h refl))
  begun_case before Bang h k e = bang_case (h refl) (((at bs 0 == 46) || (at bs 0 == 58)) && starts_var (at bs 1)) (λ t. mark_small (left_true ((at bs 0 == 46) || (at bs 0 == 58)) (starts_var (at bs 1)) t)) e
  begun_case before F.LeftOut h k e = cc
  begun_case before Other h k e = other_case (char_len (b ∷ bs) == 0) e

-- the bytes of a token of the text
pub token_ascii : (before kind : Kind) (start stop : ℕ) (text : List ℕ) → start ≤ length text → Bytes text → Tok kind start stop ≡ token before start (drop start text) → AsciiName kind (slice_range text start stop)
token_ascii before kind start stop text h bytes e = ⊎_elim inside outside (order start (length text))
  where
    inside : start < length text → AsciiName kind (slice_range text start stop)
    inside l =
        let b = get_or text start 0 in
        let bs = drop (start + 1) text in
        let later : Bytes bs = λ i. let same = get_or-drop (start + 1) text i 0 in omega (arith, same, bytes (start + 1 + i)) in
        subst (λ (bytes : List ℕ). AsciiName kind (take (stop - start) bytes)) (sym (drop-at text start l))
        (begun_case start b bs kind stop before (first b) (λ t. ltb-true b 128 (begins_ascii b (bytes start) t)) later (sym (token_is before start text l) ∙ sym e))

    outside : length text ≤ start → AsciiName kind (slice_range text start stop)
    outside l =
        let same : Tok Eof start start ≡ Tok kind start stop = sym (at_end before start text (omega arith)) ∙ sym e in
        subst (λ (k : Kind). AsciiName k (slice_range text start stop)) (ap kind_of same) tt
