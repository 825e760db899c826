-- What builtins do fits the types of their predicates and their determinisms.
use Rattle.std.proofs.Common.{◌≡◌, ◌≢◌, ℕ, zero, suc, ◌+◌, ◌<◌, ◌≤◌, ◌^◌, List, [], ◌∷◌, ◌++◌, length, drop, Bool, true, false, cond, Some, nat_eq, nat_lt, nat_le, ◌&&◌, refl, sym, ap, subst, arith}
use Rattle.std.specs.Prelude.{ℤ, pos, negsuc, neg_ℤ, ◌+ℤ◌, ◌-ℤ◌, ◌*ℤ◌, int_lt, int_le, FitsSigned, encode_utf8}
use Rattle.std.specs.Char.{IsScalar}
use Rattle.std.specs.Int.{w64}
use Rattle.std.specs.Int.RustNames.{int_div, int_rem}
use Rattle.std.specs.Ordering.{int_eq}
use Rattle.std.specs.Fmt.{signed_decimal}
use Rattle.std.specs.Str.{IsUtf8, is_utf8, chars, all_ascii_digits}
use Rattle.std.specs.Str.Parse.{without_leading_sign, signed_digits_value}
use Rattle.std.proofs.Math.Utf8.{scalars}
use Rattle.std.proofs.lemmas.Bool.{and_parts, ltb-true}
use Rattle.std.proofs.lemmas.Int.{SFits-int_wrap}
use Rattle.std.proofs.lemmas.Fmt.{IsAscii-signed}
use Rattle.std.proofs.lemmas.Str.{IsUtf8-append, IsUtf8-encode, IsUtf8-from_ascii, IsUtf8-from_is_utf8, scalars-chars}
use Rattle.mc_program.specs.Values.{Val, int, char, str, con, state, no_vals, val_then}
use Rattle.mc_program.specs.Programs.{TypeTerm, int_type, char_type, string_type, state_type, variable_type, Source}
use Rattle.mc_model.specs.Types.{OfType, AllOfTypes, argument_types}
use Rattle.mc_model.specs.EventList.{zero_divide, error}
use Rattle.mc_model.specs.Outcomes.{Outcome, fails, gives, throws, writes, reads, reads_and_throws, inputs_of}
use Rattle.mc_model.specs.Builtins.{Library, on_int, on_char, on_str, on_state, on_any, on_two_ints, at_end, gives_int, gives_str, gives_char, succeeds_if, int_floor, int_mod, fits_64, parsed_int, char_list, is_scalar, char_of_code, write_at, line_of, line_outcome, read_from, line_limit, outcome}
use Rattle.mc_accepted.specs.Determined.{builtin_determinism}
use Rattle.mc_model.specs.Good.{TypeChoice}
use Rattle.mc_accepted.specs.BuiltinFits.{at_places, EachOf, GivesOf, Throws}
use Rattle.mc_accepted.specs.BuiltinTypes.{Library_types, list_of, builtin_types}
use Rattle.laws_sound.specs.BuiltinLaws.{BuiltinsFit, HasBuiltin, MakesTypes}
use Rattle.mc_program.specs.declared.builtin.Builtin.{Builtin}
use Rattle.mc_program.specs.declared.builtin.Builtin.TheVariants as B
use Rattle.laws_sound.proofs.TypeInstances.{none_of}
use Rattle.laws_sound.proofs.Binds.{true_not_false}

cond_in : (X : Outcome → Type 0) (t : Bool) (x y : Outcome) → (t ≡ true → X x) → (t ≡ false → X y) → X (cond t x y)
cond_in X true x y f g = f refl
cond_in X false x y f g = g refl

module _ (P : Source) (θ : TypeChoice) (X : Outcome → Type 0) where
  end_in : (o : Outcome) (vs : List Val) → EachOf P θ [] vs → X o → X (at_end o vs)
  end_in o [] h x = x
  end_in o (v ∷ vs) h x = absurd h

  int_in : (f : ℤ → List Val → Outcome) (ts : List TypeTerm) (vs : List Val) → EachOf P θ (int_type ∷ ts) vs → ((n : ℤ) → FitsSigned w64 n → (ws : List Val) → EachOf P θ ts ws → X (f n ws)) → X (on_int f vs)
  int_in f ts [] h k = absurd h
  int_in f ts (int n ∷ ws) h k = k n h.0.0 ws h.1
  int_in f ts (char c ∷ ws) h k = absurd (true_not_false (sym h.0.1))
  int_in f ts (str s ∷ ws) h k = absurd (true_not_false (sym h.0.1))
  int_in f ts (state w m ∷ ws) h k = absurd (true_not_false (sym h.0.1))
  int_in f ts (con s vs ∷ ws) h k = absurd (none_of P vs h.0)

  char_in : (f : ℕ → List Val → Outcome) (ts : List TypeTerm) (vs : List Val) → EachOf P θ (char_type ∷ ts) vs → ((c : ℕ) → IsScalar c → (ws : List Val) → EachOf P θ ts ws → X (f c ws)) → X (on_char f vs)
  char_in f ts [] h k = absurd h
  char_in f ts (int n ∷ ws) h k = absurd (true_not_false (sym h.0.1))
  char_in f ts (char c ∷ ws) h k = k c h.0.0 ws h.1
  char_in f ts (str s ∷ ws) h k = absurd (true_not_false (sym h.0.1))
  char_in f ts (state w m ∷ ws) h k = absurd (true_not_false (sym h.0.1))
  char_in f ts (con s vs ∷ ws) h k = absurd (none_of P vs h.0)

  str_in : (f : List ℕ → List Val → Outcome) (ts : List TypeTerm) (vs : List Val) → EachOf P θ (string_type ∷ ts) vs → ((s : List ℕ) → IsUtf8 s → (ws : List Val) → EachOf P θ ts ws → X (f s ws)) → X (on_str f vs)
  str_in f ts [] h k = absurd h
  str_in f ts (int n ∷ ws) h k = absurd (true_not_false (sym h.0.1))
  str_in f ts (char c ∷ ws) h k = absurd (true_not_false (sym h.0.1))
  str_in f ts (str s ∷ ws) h k = k s h.0.0 ws h.1
  str_in f ts (state w m ∷ ws) h k = absurd (true_not_false (sym h.0.1))
  str_in f ts (con s vs ∷ ws) h k = absurd (none_of P vs h.0)

  state_in : (f : List ℕ → ℕ → List Val → Outcome) (ts : List TypeTerm) (vs : List Val) → EachOf P θ (state_type ∷ ts) vs → ((w : List ℕ) (k : ℕ) → k < 2 ^ 64 → (ws : List Val) → EachOf P θ ts ws → X (f w k ws)) → X (on_state f vs)
  state_in f ts [] h k = absurd h
  state_in f ts (int n ∷ ws) h k = absurd (true_not_false (sym h.0.1))
  state_in f ts (char c ∷ ws) h k = absurd (true_not_false (sym h.0.1))
  state_in f ts (str s ∷ ws) h k = absurd (true_not_false (sym h.0.1))
  state_in f ts (state w m ∷ ws) h k = k w m h.0.0 ws h.1
  state_in f ts (con s vs ∷ ws) h k = absurd (none_of P vs h.0)

  any_in : (f : Val → List Val → Outcome) (t : TypeTerm) (ts : List TypeTerm) (vs : List Val) → EachOf P θ (t ∷ ts) vs → ((v : Val) (ws : List Val) → EachOf P θ ts ws → X (f v ws)) → X (on_any f vs)
  any_in f t ts [] h k = absurd h
  any_in f t ts (v ∷ ws) h k = k v ws h.1

  ints_in : (g : ℤ → ℤ → Outcome) (vs : List Val) → EachOf P θ (int_type ∷ int_type ∷ []) vs → ((a b : ℤ) → X (g a b)) → X (on_two_ints g vs)
  ints_in g vs h k = int_in (λ a. on_int (λ b. at_end (g a b))) (int_type ∷ []) vs h (λ a fa us q. int_in (λ b. at_end (g a b)) [] us q (λ b fb ws r. end_in (g a b) ws r (k a b)))

  int_one : (g : ℤ → Outcome) (vs : List Val) → EachOf P θ (int_type ∷ []) vs → ((a : ℤ) → FitsSigned w64 a → X (g a)) → X (on_int (λ a. at_end (g a)) vs)
  int_one g vs h k = int_in (λ a. at_end (g a)) [] vs h (λ a fa ws r. end_in (g a) ws r (k a fa))

  char_one : (g : ℕ → Outcome) (vs : List Val) → EachOf P θ (char_type ∷ []) vs → ((c : ℕ) → IsScalar c → X (g c)) → X (on_char (λ c. at_end (g c)) vs)
  char_one g vs h k = char_in (λ c. at_end (g c)) [] vs h (λ c fc ws r. end_in (g c) ws r (k c fc))

  str_one : (g : List ℕ → Outcome) (vs : List Val) → EachOf P θ (string_type ∷ []) vs → ((s : List ℕ) → IsUtf8 s → X (g s)) → X (on_str (λ s. at_end (g s)) vs)
  str_one g vs h k = str_in (λ s. at_end (g s)) [] vs h (λ s fs ws r. end_in (g s) ws r (k s fs))

  write_in : (t : List ℕ) (vs : List Val) → EachOf P θ (state_type ∷ []) vs → ((w : List ℕ) (k : ℕ) → k < 2 ^ 64 → X (writes t (state (w ++ t) k ∷ []))) → X (write_at t vs)
  write_in t vs h f = state_in (λ w k. at_end (writes t (state (w ++ t) k ∷ []))) [] vs h (λ w k l ws r. end_in (writes t (state (w ++ t) k ∷ [])) ws r (f w k l))

-- lines
line_le : (bs : List ℕ) → length (line_of bs) ≤ length bs
line_le [] = omega arith
line_le (b ∷ bs) = on (nat_eq b 10) (line_le bs)
  where
    on : (t : Bool) → length (line_of bs) ≤ length bs → length (b ∷ cond t [] (line_of bs)) ≤ length (b ∷ bs)
    on true h = omega arith
    on false h = omega arith

drop_le : (bs left : List ℕ) (k : ℕ) (b : ℕ) → drop k bs ≡ b ∷ left → k + length (b ∷ left) ≤ length bs
drop_le bs left zero b e = omega (arith, ap length e)
drop_le [] left (suc k) b e = absurd (no b left e)
  where
    no : (b : ℕ) (bs : List ℕ) → [] ≡ b ∷ bs → ⊥
    no b bs e = cc
drop_le (c ∷ bs) left (suc k) b e = omega (arith, drop_le bs left k b e)

-- characters of a text make a list
list_typed : (P : Source) (L : Library) (K : Library_types) → argument_types P L.nil (list_of K char_type) ≡ Some [] → argument_types P L.cons (list_of K char_type) ≡ Some (char_type ∷ list_of K char_type ∷ []) → (cs : List ℕ) → scalars cs ≡ true → OfType P (char_list L cs) (list_of K char_type)
list_typed P L K nil cons [] e = subst (λ o. AllOfTypes P no_vals o) (sym nil) tt
list_typed P L K nil cons (c ∷ cs) e =
    let p = and_parts _ _ e in
    subst (λ o. AllOfTypes P (val_then (char c) (val_then (char_list L cs) no_vals)) o) (sym cons) ((p.0, refl), (list_typed P L K nil cons cs p.1, tt))

fits_number : (z : ℤ) → fits_64 z ≡ true → FitsSigned w64 z
fits_number (pos n) e = record { sfits = ltb-true _ _ e }
fits_number (negsuc n) e = record { sfits = ltb-true _ _ e }

-- what is given isn't a failure
not_fails : (vs : List Val) → gives vs ≡ fails → ⊥
not_fails vs e = cc

not_writes : (t : List ℕ) (vs : List Val) → writes t vs ≡ fails → ⊥
not_writes t vs e = cc

not_throws : (x : _) → throws x ≡ fails → ⊥
not_throws x e = cc

not_reads : (k : ℕ) (vs : List Val) → reads k vs ≡ fails → ⊥
not_reads k vs e = cc

not_reads_and : (k : ℕ) (x : _) → reads_and_throws k x ≡ fails → ⊥
not_reads_and k x e = cc

no_failure : true ≡ false → ⊥
no_failure e = cc

module _ (P : Source) (L : Library) (K : Library_types) (input : List ℕ) (has : MakesTypes P L K) (small : length input < 2 ^ 64) (θ : TypeChoice) where
  abbrev Gives : Builtin → Outcome → Type 0
  Gives op o = GivesOf P θ (at_places false (inputs_of op) (builtin_types K op)) o

  abbrev Holds : Outcome → Type 0
  Holds o = o ≢ fails

  abbrev Inputs : Builtin → List Val → Type 0
  Inputs op vs = EachOf P θ (at_places true (inputs_of op) (builtin_types K op)) vs

  read_line : (X : Outcome → Type 0) → ((k : ℕ) (w : List ℕ) → k < 2 ^ 64 → X (reads k (con L.eof no_vals ∷ state w k ∷ []))) → ((k : ℕ) (w line : List ℕ) → IsUtf8 line → k + length line < 2 ^ 64 → X (reads k (con L.ok (val_then (str line) no_vals) ∷ state w (k + length line) ∷ []))) → ((k : ℕ) (x : _) → X (reads_and_throws k x)) →
      (w : List ℕ) (k : ℕ) → k < 2 ^ 64 → X (read_from L line_limit k w (drop k input))
  read_line X f g t w k l = on (drop k input) refl
    where
      at_line : (bs : List ℕ) → k + length bs < 2 ^ 64 → X (line_outcome L line_limit k w bs)
      at_line bs m =
          cond_in X (nat_lt line_limit (length bs)) _ _ (λ e. t k _) (λ e. cond_in X (is_utf8 bs) _ _ (λ u. g k w bs (IsUtf8-from_is_utf8 bs u) m) (λ u. t k _))

      on : (left : List ℕ) → drop k input ≡ left → X (read_from L line_limit k w left)
      on [] e = f k w l
      on (b ∷ bs) e = at_line (line_of (b ∷ bs)) (omega (arith, drop_le input bs k b e, line_le (b ∷ bs), small))

  outputs : (op : Builtin) → HasBuiltin P op → (vs : List Val) → Inputs op vs → Gives op (outcome L input op vs)
  outputs B.IntPlus b vs h = ints_in P θ (Gives B.IntPlus) (λ a b. gives_int (a +ℤ b)) vs h (λ a b. ((SFits-int_wrap w64 (a +ℤ b), refl), tt))
  outputs B.IntMinus b vs h = ints_in P θ (Gives B.IntMinus) (λ a b. gives_int (a -ℤ b)) vs h (λ a b. ((SFits-int_wrap w64 (a -ℤ b), refl), tt))
  outputs B.IntTimes b vs h = ints_in P θ (Gives B.IntTimes) (λ a b. gives_int (a *ℤ b)) vs h (λ a b. ((SFits-int_wrap w64 (a *ℤ b), refl), tt))
  outputs B.IntQuotient b vs h = ints_in P θ (Gives B.IntQuotient) (λ a b. cond (int_eq b (pos 0)) (throws zero_divide) (gives_int (int_div a b))) vs h (λ a b. cond_in (Gives B.IntQuotient) (int_eq b (pos 0)) (throws zero_divide) (gives_int (int_div a b)) (λ e. tt) (λ e. ((SFits-int_wrap w64 (int_div a b), refl), tt)))
  outputs B.IntDiv b vs h = ints_in P θ (Gives B.IntDiv) (λ a b. cond (int_eq b (pos 0)) (throws zero_divide) (gives_int (int_floor a b))) vs h (λ a b. cond_in (Gives B.IntDiv) (int_eq b (pos 0)) (throws zero_divide) (gives_int (int_floor a b)) (λ e. tt) (λ e. ((SFits-int_wrap w64 (int_floor a b), refl), tt)))
  outputs B.IntMod b vs h = ints_in P θ (Gives B.IntMod) (λ a b. cond (int_eq b (pos 0)) (throws zero_divide) (gives_int (int_mod a b))) vs h (λ a b. cond_in (Gives B.IntMod) (int_eq b (pos 0)) (throws zero_divide) (gives_int (int_mod a b)) (λ e. tt) (λ e. ((SFits-int_wrap w64 (int_mod a b), refl), tt)))
  outputs B.IntRem b vs h = ints_in P θ (Gives B.IntRem) (λ a b. cond (int_eq b (pos 0)) (throws zero_divide) (gives_int (int_rem a b))) vs h (λ a b. cond_in (Gives B.IntRem) (int_eq b (pos 0)) (throws zero_divide) (gives_int (int_rem a b)) (λ e. tt) (λ e. ((SFits-int_wrap w64 (int_rem a b), refl), tt)))
  outputs B.IntNegate b vs h = int_one P θ (Gives B.IntNegate) (λ a. gives_int (neg_ℤ a)) vs h (λ a f. ((SFits-int_wrap w64 (neg_ℤ a), refl), tt))
  outputs B.IntLess b vs h = ints_in P θ (Gives B.IntLess) (λ a b. succeeds_if (int_lt a b)) vs h (λ a b. cond_in (Gives B.IntLess) (int_lt a b) (gives []) fails (λ e. tt) (λ e. tt))
  outputs B.IntGreater b vs h = ints_in P θ (Gives B.IntGreater) (λ a b. succeeds_if (int_lt b a)) vs h (λ a b. cond_in (Gives B.IntGreater) (int_lt b a) (gives []) fails (λ e. tt) (λ e. tt))
  outputs B.IntAtMost b vs h = ints_in P θ (Gives B.IntAtMost) (λ a b. succeeds_if (int_le a b)) vs h (λ a b. cond_in (Gives B.IntAtMost) (int_le a b) (gives []) fails (λ e. tt) (λ e. tt))
  outputs B.IntAtLeast b vs h = ints_in P θ (Gives B.IntAtLeast) (λ a b. succeeds_if (int_le b a)) vs h (λ a b. cond_in (Gives B.IntAtLeast) (int_le b a) (gives []) fails (λ e. tt) (λ e. tt))
  outputs B.StringJoin b vs h = str_in P θ (Gives B.StringJoin) (λ s. on_str (λ t. at_end (gives_str (s ++ t)))) (string_type ∷ []) vs h (λ s f ws k. str_one P θ (Gives B.StringJoin) (λ t. gives_str (s ++ t)) ws k (λ t g. ((IsUtf8-append s t f g, refl), tt)))
  outputs B.StringLength b vs h = str_one P θ (Gives B.StringLength) (λ s. gives_int (pos (length s))) vs h (λ s f. ((SFits-int_wrap w64 (pos (length s)), refl), tt))
  outputs B.StringCodePoints b vs h = str_one P θ (Gives B.StringCodePoints) (λ s. gives_int (pos (length (chars s)))) vs h (λ s f. ((SFits-int_wrap w64 (pos (length (chars s))), refl), tt))
  outputs B.IntToString b vs h = int_one P θ (Gives B.IntToString) (λ a. gives_str (signed_decimal a)) vs h (λ a f. ((IsUtf8-from_ascii (signed_decimal a) (IsAscii-signed a f.sfits), refl), tt))
  outputs B.CharToString b vs h = char_one P θ (Gives B.CharToString) (λ c. gives_str (encode_utf8 c)) vs h (λ c f. ((IsUtf8-encode c f, refl), tt))
  outputs B.ToCharList b vs h = str_one P θ (Gives B.ToCharList) (λ s. gives (char_list L (chars s) ∷ [])) vs h (λ s f. (list_typed P L K (has.nil b) (has.cons b) (chars s) (scalars-chars s f), tt))
  outputs B.StringToInt b vs h = str_one P θ (Gives B.StringToInt) (λ s. parsed_int s) vs h (λ s f.
      cond_in (Gives B.StringToInt) (nat_lt 0 (length (without_leading_sign s)) && all_ascii_digits (without_leading_sign s) && fits_64 (signed_digits_value 10 s)) (gives (int (signed_digits_value 10 s) ∷ [])) fails
      (λ e. ((fits_number (signed_digits_value 10 s) (and_parts (nat_lt 0 (length (without_leading_sign s)) && all_ascii_digits (without_leading_sign s)) (fits_64 (signed_digits_value 10 s)) e).1, refl), tt)) (λ e. tt))
  outputs B.CharToInt b vs h = char_one P θ (Gives B.CharToInt) (λ c. gives_int (pos c)) vs h (λ c f. ((SFits-int_wrap w64 (pos c), refl), tt))
  outputs B.CharFromInt b vs h = int_one P θ (Gives B.CharFromInt) (λ a. char_of_code a) vs h (λ a f. code a)
    where
      code : (a : ℤ) → Gives B.CharFromInt (char_of_code a)
      code (pos n) = cond_in (Gives B.CharFromInt) (is_scalar n) (gives_char n) fails (λ e. ((e, refl), tt)) (λ e. tt)
      code (negsuc n) = tt
  outputs B.CharIsDigit b vs h = char_one P θ (Gives B.CharIsDigit) (λ c. succeeds_if (nat_le 48 c && nat_le c 57)) vs h (λ c f. cond_in (Gives B.CharIsDigit) (nat_le 48 c && nat_le c 57) (gives []) fails (λ e. tt) (λ e. tt))
  outputs B.WriteString b vs h = str_in P θ (Gives B.WriteString) (λ s. write_at s) (state_type ∷ []) vs h (λ s f ws k. write_in P θ (Gives B.WriteString) s ws k (λ w j l. ((l, refl), tt)))
  outputs B.WriteChar b vs h = char_in P θ (Gives B.WriteChar) (λ c. write_at (encode_utf8 c)) (state_type ∷ []) vs h (λ c f ws k. write_in P θ (Gives B.WriteChar) (encode_utf8 c) ws k (λ w j l. ((l, refl), tt)))
  outputs B.WriteInt b vs h = int_in P θ (Gives B.WriteInt) (λ a. write_at (signed_decimal a)) (state_type ∷ []) vs h (λ a f ws k. write_in P θ (Gives B.WriteInt) (signed_decimal a) ws k (λ w j l. ((l, refl), tt)))
  outputs B.Write b vs h = any_in P θ (Gives B.Write) (λ v. write_at (L.text_of v)) (variable_type 0) (state_type ∷ []) vs h (λ v ws k. write_in P θ (Gives B.Write) (L.text_of v) ws k (λ w j l. ((l, refl), tt)))
  outputs B.Nl b vs h = write_in P θ (Gives B.Nl) (10 ∷ []) vs h (λ w j l. ((l, refl), tt))
  outputs B.ReadLine b vs h =
      state_in P θ (Gives B.ReadLine) (λ w k. at_end (read_from L line_limit k w (drop k input))) [] vs h
      (λ w k l ws r. end_in P θ (Gives B.ReadLine) (read_from L line_limit k w (drop k input)) ws r
      (read_line (Gives B.ReadLine) (λ k w l. (subst (λ o. AllOfTypes P no_vals o) (sym (has.eof b)) tt, ((l, refl), tt))) (λ k w line u m. (subst (λ o. AllOfTypes P (val_then (str line) no_vals) o) (sym (has.ok b)) ((u, refl), tt), ((m, refl), tt))) (λ k x. tt) w k l))
  outputs B.Error b vs h = str_one P θ (Gives B.Error) (λ s. throws (error s)) vs h (λ s f. tt)

  succeeds : (op : Builtin) (vs : List Val) → Inputs op vs → (builtin_determinism op).can_fail ≡ false → Holds (outcome L input op vs)
  succeeds B.IntPlus vs h d = ints_in P θ Holds (λ a b. gives_int (a +ℤ b)) vs h (λ a b. not_fails _)
  succeeds B.IntMinus vs h d = ints_in P θ Holds (λ a b. gives_int (a -ℤ b)) vs h (λ a b. not_fails _)
  succeeds B.IntTimes vs h d = ints_in P θ Holds (λ a b. gives_int (a *ℤ b)) vs h (λ a b. not_fails _)
  succeeds B.IntQuotient vs h d = ints_in P θ Holds (λ a b. cond (int_eq b (pos 0)) (throws zero_divide) (gives_int (int_div a b))) vs h (λ a b. cond_in Holds (int_eq b (pos 0)) (throws zero_divide) (gives_int (int_div a b)) (λ e. not_throws zero_divide) (λ e. not_fails _))
  succeeds B.IntDiv vs h d = ints_in P θ Holds (λ a b. cond (int_eq b (pos 0)) (throws zero_divide) (gives_int (int_floor a b))) vs h (λ a b. cond_in Holds (int_eq b (pos 0)) (throws zero_divide) (gives_int (int_floor a b)) (λ e. not_throws zero_divide) (λ e. not_fails _))
  succeeds B.IntMod vs h d = ints_in P θ Holds (λ a b. cond (int_eq b (pos 0)) (throws zero_divide) (gives_int (int_mod a b))) vs h (λ a b. cond_in Holds (int_eq b (pos 0)) (throws zero_divide) (gives_int (int_mod a b)) (λ e. not_throws zero_divide) (λ e. not_fails _))
  succeeds B.IntRem vs h d = ints_in P θ Holds (λ a b. cond (int_eq b (pos 0)) (throws zero_divide) (gives_int (int_rem a b))) vs h (λ a b. cond_in Holds (int_eq b (pos 0)) (throws zero_divide) (gives_int (int_rem a b)) (λ e. not_throws zero_divide) (λ e. not_fails _))
  succeeds B.IntNegate vs h d = int_one P θ Holds (λ a. gives_int (neg_ℤ a)) vs h (λ a f. not_fails _)
  succeeds B.IntLess vs h d = absurd (no_failure d)
  succeeds B.IntGreater vs h d = absurd (no_failure d)
  succeeds B.IntAtMost vs h d = absurd (no_failure d)
  succeeds B.IntAtLeast vs h d = absurd (no_failure d)
  succeeds B.StringToInt vs h d = absurd (no_failure d)
  succeeds B.CharFromInt vs h d = absurd (no_failure d)
  succeeds B.CharIsDigit vs h d = absurd (no_failure d)
  succeeds B.StringJoin vs h d = str_in P θ Holds (λ s. on_str (λ t. at_end (gives_str (s ++ t)))) (string_type ∷ []) vs h (λ s f ws k. str_one P θ Holds (λ t. gives_str (s ++ t)) ws k (λ t g. not_fails _))
  succeeds B.StringLength vs h d = str_one P θ Holds (λ s. gives_int (pos (length s))) vs h (λ s f. not_fails _)
  succeeds B.StringCodePoints vs h d = str_one P θ Holds (λ s. gives_int (pos (length (chars s)))) vs h (λ s f. not_fails _)
  succeeds B.ToCharList vs h d = str_one P θ Holds (λ s. gives (char_list L (chars s) ∷ [])) vs h (λ s f. not_fails _)
  succeeds B.IntToString vs h d = int_one P θ Holds (λ a. gives_str (signed_decimal a)) vs h (λ a f. not_fails _)
  succeeds B.CharToString vs h d = char_one P θ Holds (λ c. gives_str (encode_utf8 c)) vs h (λ c f. not_fails _)
  succeeds B.CharToInt vs h d = char_one P θ Holds (λ c. gives_int (pos c)) vs h (λ c f. not_fails _)
  succeeds B.WriteString vs h d = str_in P θ Holds (λ s. write_at s) (state_type ∷ []) vs h (λ s f ws k. write_in P θ Holds s ws k (λ w j l. not_writes _ _))
  succeeds B.WriteChar vs h d = char_in P θ Holds (λ c. write_at (encode_utf8 c)) (state_type ∷ []) vs h (λ c f ws k. write_in P θ Holds (encode_utf8 c) ws k (λ w j l. not_writes _ _))
  succeeds B.WriteInt vs h d = int_in P θ Holds (λ a. write_at (signed_decimal a)) (state_type ∷ []) vs h (λ a f ws k. write_in P θ Holds (signed_decimal a) ws k (λ w j l. not_writes _ _))
  succeeds B.Write vs h d = any_in P θ Holds (λ v. write_at (L.text_of v)) (variable_type 0) (state_type ∷ []) vs h (λ v ws k. write_in P θ Holds (L.text_of v) ws k (λ w j l. not_writes _ _))
  succeeds B.Nl vs h d = write_in P θ Holds (10 ∷ []) vs h (λ w j l. not_writes _ _)
  succeeds B.ReadLine vs h d =
      state_in P θ Holds (λ w k. at_end (read_from L line_limit k w (drop k input))) [] vs h
      (λ w k l ws r. end_in P θ Holds (read_from L line_limit k w (drop k input)) ws r (read_line Holds (λ k w l. not_reads k _) (λ k w line u m. not_reads k _) (λ k x. not_reads_and k x) w k l))
  succeeds B.Error vs h d = str_one P θ Holds (λ s. throws (error s)) vs h (λ s f. not_throws (error s))

error_throws : (P : Source) (L : Library) (input : List ℕ) (θ : TypeChoice) (vs : List Val) → EachOf P θ (string_type ∷ []) vs → Throws (outcome L input B.Error vs)
error_throws P L input θ vs h = str_one P θ Throws (λ s. throws (error s)) vs h (λ s f. tt)

pub builtins_fit : BuiltinsFit
builtins_fit P L K input has types small =
    record {
      outputs = λ θ p op vs q h. subst (λ ts. GivesOf P θ (at_places false (inputs_of op) ts) (outcome L input op vs)) (sym (types p op q).1) (outputs P L K input has small θ op (p, q) vs (subst (λ ts. EachOf P θ (at_places true (inputs_of op) ts) vs) (types p op q).1 h));
      succeeds = λ θ p op vs q h f. succeeds P L K input has small θ op vs (subst (λ ts. EachOf P θ (at_places true (inputs_of op) ts) vs) (types p op q).1 h) f;
      error_throws = λ θ p vs q h. error_throws P L input θ vs (subst (λ ts. EachOf P θ (at_places true (inputs_of B.Error) ts) vs) (types p B.Error q).1 h);
    }
