-- What a builtin gives at values of a program are values of it.
use Rattle.std.proofs.Common.{◌≡◌, ℕ, ℤ, pos, Bool, true, false, ◌&&◌, List, [], ◌∷◌, ◌++◌, length, refl, arith, FitsSigned}
use Rattle.std.specs.Prelude.{negsuc, neg_ℤ, ◌+ℤ◌, ◌-ℤ◌, ◌*ℤ◌, int_lt, int_le, nat_lt, nat_le, encode_utf8, drop, if◌then◌else◌}
use Rattle.std.specs.Int.RustNames.{int_div, int_rem}
use Rattle.std.specs.Ordering.{int_eq}
use Rattle.std.proofs.Math.Utf8.{scalar, scalars}
use Rattle.std.specs.Str.Parse.{without_leading_sign, signed_digits_value}
use Rattle.std.specs.Int.{w64, int_wrap}
use Rattle.std.specs.Str.{IsUtf8, chars, is_utf8, all_ascii_digits}
use Rattle.std.proofs.lemmas.Bool.Decides.{nat_tests}
use Rattle.std.proofs.lemmas.Int.{SFits-int_wrap}
use Rattle.std.proofs.lemmas.Fmt.{IsAscii-signed}
use Rattle.std.proofs.lemmas.Str.{IsUtf8-append, IsUtf8-encode, IsUtf8-from_ascii, scalars-chars}
use Rattle.std.specs.Fmt.{signed_decimal}
use Rattle.mc_program.specs.Values.{Val, int, char, str, con, state}
use Rattle.mc_program.specs.Printed.{SymbolsBelow}
use Rattle.mc_program.specs.declared.program.Program.{Program}
use Rattle.mc_program.specs.declared.builtin.Builtin.{Builtin}
use Rattle.mc_program.specs.declared.builtin.Builtin.TheVariants as B
use Rattle.mc_model.specs.Outcomes.{Outcome, fails, gives, throws, writes, reads, reads_and_throws}
use Rattle.mc_model.specs.Builtins.{Library, outcome, on_int, on_char, on_str, on_state, on_any, at_end, gives_int, int_floor, int_mod, fits_64, parsed_int, char_list, char_of_code, is_scalar, write_at, line_of, line_outcome, read_from, line_limit}
use Rattle.mc_model.specs.EventList.{zero_divide, error}
use Rattle.mc_plain.specs.Values.{IsProper, IsValue, ListsAreNamed}

-- an integer that is wrapped at 64 bits has them
fits : (z : ℤ) → FitsSigned w64 z → fits_64 z ≡ true
fits (pos n) f = let h = f.sfits in grind (arith, nat_tests)
fits (negsuc n) f = let h = f.sfits in grind (arith, nat_tests)

decimal_text : (z : ℤ) → fits_64 z ≡ true → IsUtf8 (signed_decimal z)
decimal_text (pos n) e = IsUtf8-from_ascii (signed_decimal (pos n)) (IsAscii-signed (pos n) (grind (arith, nat_tests)))
decimal_text (negsuc n) e = IsUtf8-from_ascii (signed_decimal (negsuc n)) (IsAscii-signed (negsuc n) (grind (arith, nat_tests)))

module _ (P : Program) where
  abbrev pub AreValues : List Val → Type 0
  AreValues [] = Unit {0}
  AreValues (v ∷ vs) = IsValue P v × AreValues vs

  -- the outputs are values of the program
  abbrev pub GivesValues : Outcome → Type 0
  GivesValues fails = Unit {0}
  GivesValues (gives vs) = AreValues vs
  GivesValues (throws e) = Unit {0}
  GivesValues (writes t vs) = AreValues vs
  GivesValues (reads k vs) = Unit {0}
  GivesValues (reads_and_throws k e) = Unit {0}

  module _ (f : ℤ → List Val → Outcome) (h : (n : ℤ) (vs : List Val) → fits_64 n ≡ true → AreValues vs → GivesValues (f n vs)) where
    int_gives : (vs : List Val) → AreValues vs → GivesValues (on_int f vs)
    int_gives [] are = tt
    int_gives (int n ∷ vs) are = h n vs are.0.proper are.1
    int_gives (char c ∷ vs) are = tt
    int_gives (str s ∷ vs) are = tt
    int_gives (con g ws ∷ vs) are = tt
    int_gives (state w k ∷ vs) are = tt

  module _ (f : ℕ → List Val → Outcome) (h : (c : ℕ) (vs : List Val) → is_scalar c ≡ true → AreValues vs → GivesValues (f c vs)) where
    char_gives : (vs : List Val) → AreValues vs → GivesValues (on_char f vs)
    char_gives [] are = tt
    char_gives (int n ∷ vs) are = tt
    char_gives (char c ∷ vs) are = h c vs are.0.proper are.1
    char_gives (str s ∷ vs) are = tt
    char_gives (con g ws ∷ vs) are = tt
    char_gives (state w k ∷ vs) are = tt

  module _ (f : List ℕ → List Val → Outcome) (h : (s : List ℕ) (vs : List Val) → IsUtf8 s → AreValues vs → GivesValues (f s vs)) where
    str_gives : (vs : List Val) → AreValues vs → GivesValues (on_str f vs)
    str_gives [] are = tt
    str_gives (int n ∷ vs) are = tt
    str_gives (char c ∷ vs) are = tt
    str_gives (str s ∷ vs) are = h s vs are.0.proper are.1
    str_gives (con g ws ∷ vs) are = tt
    str_gives (state w k ∷ vs) are = tt

  module _ (f : List ℕ → ℕ → List Val → Outcome) (h : (w : List ℕ) (k : ℕ) (vs : List Val) → GivesValues (f w k vs)) where
    state_gives : (vs : List Val) → GivesValues (on_state f vs)
    state_gives [] = tt
    state_gives (int n ∷ vs) = tt
    state_gives (char c ∷ vs) = tt
    state_gives (str s ∷ vs) = tt
    state_gives (con g ws ∷ vs) = tt
    state_gives (state w k ∷ vs) = h w k vs

  any_gives : (f : Val → List Val → Outcome) → ((v : Val) (vs : List Val) → GivesValues (f v vs)) → (vs : List Val) → GivesValues (on_any f vs)
  any_gives f h [] = tt
  any_gives f h (v ∷ vs) = h v vs

  end_gives : (o : Outcome) (vs : List Val) → GivesValues o → GivesValues (at_end o vs)
  end_gives o [] given = given
  end_gives o (v ∷ vs) given = tt

  -- a choice of two outcomes
  either_gives : (b : Bool) (o p : Outcome) → (b ≡ true → GivesValues o) → (b ≡ false → GivesValues p) → GivesValues (if b then o else p)
  either_gives true o p h k = h refl
  either_gives false o p h k = k refl

  one : (v : Val) → IsValue P v → GivesValues (gives (v ∷ []))
  one v is = (is, tt)

  a_number : (n : ℤ) → GivesValues (gives_int n)
  a_number n = one (int (int_wrap w64 n)) (record { named = tt; proper = fits (int_wrap w64 n) (SFits-int_wrap w64 n) })

  a_text : (s : List ℕ) → IsUtf8 s → GivesValues (gives (str s ∷ []))
  a_text s is = one (str s) (record { named = tt; proper = is })

  a_character : (c : ℕ) → is_scalar c ≡ true → GivesValues (gives (char c ∷ []))
  a_character c is = one (char c) (record { named = tt; proper = is })

  two_ints : (f : ℤ → ℤ → Outcome) → ((a b : ℤ) → GivesValues (f a b)) → (vs : List Val) → AreValues vs → GivesValues (on_int (λ a. on_int (λ b. at_end (f a b))) vs)
  two_ints f h = int_gives (λ a. on_int (λ b. at_end (f a b))) (λ a vs p are. int_gives (λ b. at_end (f a b)) (λ b ws q more. end_gives (f a b) ws (h a b)) vs are)

  a_test : (b : Bool) → GivesValues (if b then gives [] else fails)
  a_test true = tt
  a_test false = tt

  writing : (t : List ℕ) (vs : List Val) → GivesValues (on_state (λ written taken. at_end (writes t (state (written ++ t) taken ∷ []))) vs)
  writing t = state_gives (λ written taken. at_end (writes t (state (written ++ t) taken ∷ []))) (λ w k vs. end_gives (writes t (state (w ++ t) k ∷ [])) vs (record { named = tt; proper = tt }, tt))

  scalar_parts : (a b : Bool) → a && b ≡ true → (a ≡ true) × (b ≡ true)
  scalar_parts true b e = (refl, e)
  scalar_parts false b e = cc

  module _ (L : Library) where
    list_proper : (cs : List ℕ) → scalars cs ≡ true → IsProper (char_list L cs)
    list_proper [] e = tt
    list_proper (c ∷ cs) e = let p = scalar_parts (scalar c) (scalars cs) e in (p.0, (list_proper cs p.1, tt))

    module _ (named : ListsAreNamed (length P.symbols) L B.ToCharList) where
      list_named : (cs : List ℕ) → SymbolsBelow (length P.symbols) (char_list L cs)
      list_named [] = (named.0, tt)
      list_named (c ∷ cs) = (named.1, (tt, (list_named cs, tt)))

      a_list : (s : List ℕ) → IsUtf8 s → GivesValues (gives (char_list L (chars s) ∷ []))
      a_list s is = one (char_list L (chars s)) (record { named = list_named (chars s); proper = list_proper (chars s) (scalars-chars s is) })

    a_parsed : (s : List ℕ) → GivesValues (parsed_int s)
    a_parsed s =
        either_gives (nat_lt 0 (length (without_leading_sign s)) && all_ascii_digits (without_leading_sign s) && fits_64 (signed_digits_value 10 s))
        (gives (int (signed_digits_value 10 s) ∷ [])) fails
        (λ e. one (int (signed_digits_value 10 s)) (record { named = tt; proper = (scalar_parts (nat_lt 0 (length (without_leading_sign s)) && all_ascii_digits (without_leading_sign s)) (fits_64 (signed_digits_value 10 s)) e).1 }))
        (λ e. tt)

    a_code : (n : ℤ) → GivesValues (char_of_code n)
    a_code (pos n) = either_gives (is_scalar n) (gives (char n ∷ [])) fails (λ e. a_character n e) (λ e. tt)
    a_code (negsuc n) = tt

    a_quotient : (f : ℤ → ℤ → ℤ) (a b : ℤ) → GivesValues (if int_eq b (pos 0) then throws zero_divide else gives_int (f a b))
    a_quotient f a b = either_gives (int_eq b (pos 0)) (throws zero_divide) (gives_int (f a b)) (λ e. tt) (λ e. a_number (f a b))

    a_read : (limit taken : ℕ) (written line : List ℕ) → GivesValues (line_outcome L limit taken written line)
    a_read limit taken written line =
        either_gives (nat_lt limit (length line)) _ _ (λ e. tt) (λ e. either_gives (is_utf8 line) _ _ (λ e. tt) (λ e. tt))

    a_line : (limit taken : ℕ) (written left : List ℕ) → GivesValues (read_from L limit taken written left)
    a_line limit taken written [] = tt
    a_line limit taken written (b ∷ bs) = a_read limit taken written (line_of (b ∷ bs))

    -- what a builtin gives at values of the program are values of it
    pub outcome_gives : (input : List ℕ) (op : Builtin) → ListsAreNamed (length P.symbols) L op → (vs : List Val) → AreValues vs → GivesValues (outcome L input op vs)
    outcome_gives input B.IntPlus named vs are = two_ints (λ a b. gives_int (a +ℤ b)) (λ a b. a_number (a +ℤ b)) vs are
    outcome_gives input B.IntMinus named vs are = two_ints (λ a b. gives_int (a -ℤ b)) (λ a b. a_number (a -ℤ b)) vs are
    outcome_gives input B.IntTimes named vs are = two_ints (λ a b. gives_int (a *ℤ b)) (λ a b. a_number (a *ℤ b)) vs are
    outcome_gives input B.IntQuotient named vs are = two_ints _ (a_quotient int_div) vs are
    outcome_gives input B.IntDiv named vs are = two_ints _ (a_quotient int_floor) vs are
    outcome_gives input B.IntMod named vs are = two_ints _ (a_quotient int_mod) vs are
    outcome_gives input B.IntRem named vs are = two_ints _ (a_quotient int_rem) vs are
    outcome_gives input B.IntNegate named vs are = int_gives (λ a. at_end (gives_int (neg_ℤ a))) (λ a ws p more. end_gives (gives_int (neg_ℤ a)) ws (a_number (neg_ℤ a))) vs are
    outcome_gives input B.IntLess named vs are = two_ints (λ a b. if int_lt a b then gives [] else fails) (λ a b. a_test (int_lt a b)) vs are
    outcome_gives input B.IntGreater named vs are = two_ints (λ a b. if int_lt b a then gives [] else fails) (λ a b. a_test (int_lt b a)) vs are
    outcome_gives input B.IntAtMost named vs are = two_ints (λ a b. if int_le a b then gives [] else fails) (λ a b. a_test (int_le a b)) vs are
    outcome_gives input B.IntAtLeast named vs are = two_ints (λ a b. if int_le b a then gives [] else fails) (λ a b. a_test (int_le b a)) vs are
    outcome_gives input B.StringJoin named vs are =
        str_gives (λ s. on_str (λ t. at_end (gives (str (s ++ t) ∷ [])))) (λ s ws p more.
        str_gives (λ t. at_end (gives (str (s ++ t) ∷ []))) (λ t us q rest. end_gives (gives (str (s ++ t) ∷ [])) us (a_text (s ++ t) (IsUtf8-append s t p q))) ws more) vs are
    outcome_gives input B.StringLength named vs are = str_gives (λ s. at_end (gives_int (pos (length s)))) (λ s ws p more. end_gives (gives_int (pos (length s))) ws (a_number (pos (length s)))) vs are
    outcome_gives input B.StringCodePoints named vs are = str_gives (λ s. at_end (gives_int (pos (length (chars s))))) (λ s ws p more. end_gives (gives_int (pos (length (chars s)))) ws (a_number (pos (length (chars s))))) vs are
    outcome_gives input B.IntToString named vs are = int_gives (λ a. at_end (gives (str (signed_decimal a) ∷ []))) (λ a ws p more. end_gives (gives (str (signed_decimal a) ∷ [])) ws (a_text (signed_decimal a) (decimal_text a p))) vs are
    outcome_gives input B.CharToString named vs are = char_gives (λ c. at_end (gives (str (encode_utf8 c) ∷ []))) (λ c ws p more. end_gives (gives (str (encode_utf8 c) ∷ [])) ws (a_text (encode_utf8 c) (IsUtf8-encode c p))) vs are
    outcome_gives input B.ToCharList named vs are = str_gives (λ s. at_end (gives (char_list L (chars s) ∷ []))) (λ s ws p more. end_gives (gives (char_list L (chars s) ∷ [])) ws (a_list named s p)) vs are
    outcome_gives input B.StringToInt named vs are = str_gives (λ s. at_end (parsed_int s)) (λ s ws p more. end_gives (parsed_int s) ws (a_parsed s)) vs are
    outcome_gives input B.CharToInt named vs are = char_gives (λ c. at_end (gives_int (pos c))) (λ c ws p more. end_gives (gives_int (pos c)) ws (a_number (pos c))) vs are
    outcome_gives input B.CharFromInt named vs are = int_gives (λ a. at_end (char_of_code a)) (λ a ws p more. end_gives (char_of_code a) ws (a_code a)) vs are
    outcome_gives input B.CharIsDigit named vs are = char_gives (λ c. at_end (if nat_le 48 c && nat_le c 57 then gives [] else fails)) (λ c ws p more. end_gives (if nat_le 48 c && nat_le c 57 then gives [] else fails) ws (a_test (nat_le 48 c && nat_le c 57))) vs are
    outcome_gives input B.WriteString named vs are = str_gives (λ s. write_at s) (λ s ws p more. writing s ws) vs are
    outcome_gives input B.WriteChar named vs are = char_gives (λ c. write_at (encode_utf8 c)) (λ c ws p more. writing (encode_utf8 c) ws) vs are
    outcome_gives input B.WriteInt named vs are = int_gives (λ a. write_at (signed_decimal a)) (λ a ws p more. writing (signed_decimal a) ws) vs are
    outcome_gives input B.Write named vs are = any_gives (λ v. write_at (L.text_of v)) (λ v ws. writing (L.text_of v) ws) vs
    outcome_gives input B.Nl named vs are = writing (10 ∷ []) vs
    outcome_gives input B.ReadLine named vs are =
        state_gives (λ written taken. at_end (read_from L line_limit taken written (drop taken input)))
        (λ written taken ws. end_gives (read_from L line_limit taken written (drop taken input)) ws (a_line line_limit taken written (drop taken input))) vs
    outcome_gives input B.Error named vs are = str_gives (λ s. at_end (throws (error s))) (λ s ws p more. end_gives (throws (error s)) ws tt) vs are
