-- What the real builtins do of io.
use Rattle.std.proofs.Common.{◌≡◌, ℕ, ◌+◌, List, [], ◌∷◌, ◌++◌, length, drop, Bool, true, false, cond, nat_lt, nat_le, ◌&&◌, refl, sym, subst}
use Rattle.std.specs.Prelude.{ℤ, pos, neg_ℤ, ◌+ℤ◌, ◌-ℤ◌, ◌*ℤ◌, int_lt, int_le, encode_utf8}
use Rattle.std.specs.Int.RustNames.{int_div, int_rem}
use Rattle.std.specs.Ordering.{int_eq}
use Rattle.std.specs.Fmt.{signed_decimal}
use Rattle.std.specs.Str.{is_utf8, chars, all_ascii_digits}
use Rattle.std.specs.Str.Parse.{without_leading_sign, signed_digits_value}
use Rattle.mc_program.specs.Values.{Val, int, char, str, con, state, no_vals, val_then}
use Rattle.mc_program.specs.Programs.{Source}
use Rattle.mc_model.specs.EventList.{zero_divide, error}
use Rattle.mc_model.specs.Outcomes.{Outcome, fails, gives, throws, reads, reads_and_throws, inputs_of}
use Rattle.mc_model.specs.Builtins.{Library, on_int, on_char, on_str, on_two_ints, at_end, gives_int, gives_str, gives_char, succeeds_if, int_floor, int_mod, fits_64, divided, parsed_int, char_list, is_scalar, char_of_code, write_at, line_of, line_outcome, read_from, line_limit, outcome}
use Rattle.mc_model.specs.Good.{TypeChoice}
use Rattle.mc_accepted.specs.BuiltinFits.{at_places, EachOf}
use Rattle.mc_accepted.specs.BuiltinTypes.{Library_types, builtin_types}
use Rattle.mc_accepted.specs.Determined.{is_io_builtin}
use Rattle.mc_accepted.specs.IoFits.{LastIs, Advances, NoIo}
use Rattle.laws_sound.specs.IoLaws.{BuiltinsDoIo}
use Rattle.mc_program.specs.declared.builtin.Builtin.{Builtin}
use Rattle.mc_program.specs.declared.builtin.Builtin.TheVariants as B
use Rattle.laws_sound.proofs.TypeInstances.{none_of}
use Rattle.laws_sound.proofs.Binds.{true_not_false}

-- tests and inputs without io
of_cond : (X : Outcome → Type 0) (t : Bool) (x y : Outcome) → X x → X y → X (cond t x y)
of_cond X true x y f g = f
of_cond X false x y f g = g

of_end : (o : Outcome) (vs : List Val) → NoIo o → NoIo (at_end o vs)
of_end o [] n = n
of_end o (v ∷ vs) n = tt

of_int : (f : ℤ → List Val → Outcome) (vs : List Val) → ((n : ℤ) (ws : List Val) → NoIo (f n ws)) → NoIo (on_int f vs)
of_int f [] k = tt
of_int f (int n ∷ ws) k = k n ws
of_int f (char c ∷ ws) k = tt
of_int f (str s ∷ ws) k = tt
of_int f (con s vs ∷ ws) k = tt
of_int f (state w m ∷ ws) k = tt

of_char : (f : ℕ → List Val → Outcome) (vs : List Val) → ((n : ℕ) (ws : List Val) → NoIo (f n ws)) → NoIo (on_char f vs)
of_char f [] k = tt
of_char f (int n ∷ ws) k = tt
of_char f (char c ∷ ws) k = k c ws
of_char f (str s ∷ ws) k = tt
of_char f (con s vs ∷ ws) k = tt
of_char f (state w m ∷ ws) k = tt

of_str : (f : List ℕ → List Val → Outcome) (vs : List Val) → ((n : List ℕ) (ws : List Val) → NoIo (f n ws)) → NoIo (on_str f vs)
of_str f [] k = tt
of_str f (int n ∷ ws) k = tt
of_str f (char c ∷ ws) k = tt
of_str f (str s ∷ ws) k = k s ws
of_str f (con s vs ∷ ws) k = tt
of_str f (state w m ∷ ws) k = tt

of_ints : (g : ℤ → ℤ → Outcome) (vs : List Val) → ((a b : ℤ) → NoIo (g a b)) → NoIo (on_two_ints g vs)
of_ints g vs k = of_int (λ a. on_int (λ b. at_end (g a b))) vs (λ a us. of_int (λ b. at_end (g a b)) us (λ b ws. of_end (g a b) ws (k a b)))

of_divided : (f : ℤ → ℤ → ℤ) (vs : List Val) → NoIo (divided f vs)
of_divided f vs = of_ints (λ a b. cond (int_eq b (pos 0)) (throws zero_divide) (gives_int (f a b))) vs (λ a b. of_cond NoIo (int_eq b (pos 0)) (throws zero_divide) (gives_int (f a b)) tt tt)

of_test : (t : Bool) → NoIo (succeeds_if t)
of_test t = of_cond NoIo t (gives []) fails tt tt

of_parsed : (s : List ℕ) → NoIo (parsed_int s)
of_parsed s = of_cond NoIo (nat_lt 0 (length (without_leading_sign s)) && all_ascii_digits (without_leading_sign s) && fits_64 (signed_digits_value 10 s)) (gives (int (signed_digits_value 10 s) ∷ [])) fails tt tt

of_code : (a : ℤ) → NoIo (char_of_code a)
of_code (pos n) = of_cond NoIo (is_scalar n) (gives_char n) fails tt tt
of_code (Rattle.std.specs.Prelude.negsuc n) = tt

quiet : (L : Library) (input : List ℕ) (op : Builtin) (vs : List Val) → is_io_builtin op ≡ false → NoIo (outcome L input op vs)
quiet L input B.IntPlus vs e = of_ints (λ a b. gives_int (a +ℤ b)) vs (λ a b. tt)
quiet L input B.IntMinus vs e = of_ints (λ a b. gives_int (a -ℤ b)) vs (λ a b. tt)
quiet L input B.IntTimes vs e = of_ints (λ a b. gives_int (a *ℤ b)) vs (λ a b. tt)
quiet L input B.IntQuotient vs e = of_divided int_div vs
quiet L input B.IntDiv vs e = of_divided int_floor vs
quiet L input B.IntMod vs e = of_divided int_mod vs
quiet L input B.IntRem vs e = of_divided int_rem vs
quiet L input B.IntNegate vs e = of_int (λ a. at_end (gives_int (neg_ℤ a))) vs (λ a ws. of_end (gives_int (neg_ℤ a)) ws tt)
quiet L input B.IntLess vs e = of_ints (λ a b. succeeds_if (int_lt a b)) vs (λ a b. of_test (int_lt a b))
quiet L input B.IntGreater vs e = of_ints (λ a b. succeeds_if (int_lt b a)) vs (λ a b. of_test (int_lt b a))
quiet L input B.IntAtMost vs e = of_ints (λ a b. succeeds_if (int_le a b)) vs (λ a b. of_test (int_le a b))
quiet L input B.IntAtLeast vs e = of_ints (λ a b. succeeds_if (int_le b a)) vs (λ a b. of_test (int_le b a))
quiet L input B.StringJoin vs e = of_str (λ s. on_str (λ t. at_end (gives_str (s ++ t)))) vs (λ s us. of_str (λ t. at_end (gives_str (s ++ t))) us (λ t ws. of_end (gives_str (s ++ t)) ws tt))
quiet L input B.StringLength vs e = of_str (λ s. at_end (gives_int (pos (length s)))) vs (λ s ws. of_end (gives_int (pos (length s))) ws tt)
quiet L input B.StringCodePoints vs e = of_str (λ s. at_end (gives_int (pos (length (chars s))))) vs (λ s ws. of_end (gives_int (pos (length (chars s)))) ws tt)
quiet L input B.IntToString vs e = of_int (λ a. at_end (gives_str (signed_decimal a))) vs (λ a ws. of_end (gives_str (signed_decimal a)) ws tt)
quiet L input B.CharToString vs e = of_char (λ c. at_end (gives_str (encode_utf8 c))) vs (λ c ws. of_end (gives_str (encode_utf8 c)) ws tt)
quiet L input B.ToCharList vs e = of_str (λ s. at_end (gives (char_list L (chars s) ∷ []))) vs (λ s ws. of_end (gives (char_list L (chars s) ∷ [])) ws tt)
quiet L input B.StringToInt vs e = of_str (λ s. at_end (parsed_int s)) vs (λ s ws. of_end (parsed_int s) ws (of_parsed s))
quiet L input B.CharToInt vs e = of_char (λ c. at_end (gives_int (pos c))) vs (λ c ws. of_end (gives_int (pos c)) ws tt)
quiet L input B.CharFromInt vs e = of_int (λ a. at_end (char_of_code a)) vs (λ a ws. of_end (char_of_code a) ws (of_code a))
quiet L input B.CharIsDigit vs e = of_char (λ c. at_end (succeeds_if (nat_le 48 c && nat_le c 57))) vs (λ c ws. of_end (succeeds_if (nat_le 48 c && nat_le c 57)) ws (of_test (nat_le 48 c && nat_le c 57)))
quiet L input B.Error vs e = of_str (λ s. at_end (throws (error s))) vs (λ s ws. of_end (throws (error s)) ws tt)
quiet L input B.WriteString vs e = absurd (true_not_false e)
quiet L input B.WriteChar vs e = absurd (true_not_false e)
quiet L input B.WriteInt vs e = absurd (true_not_false e)
quiet L input B.Write vs e = absurd (true_not_false e)
quiet L input B.Nl vs e = absurd (true_not_false e)
quiet L input B.ReadLine vs e = absurd (true_not_false e)

-- what is written is appended to the state
written_at : (w t : List ℕ) (u : Val) (k : ℕ) → u ≡ state w k → Advances w (write_at t (u ∷ []))
written_at w t u k e = subst (λ v. Advances w (write_at t (v ∷ []))) (sym e) (k, refl)

line_advances : (L : Library) (w : List ℕ) (k : ℕ) (left : List ℕ) → Advances w (read_from L line_limit k w left)
line_advances L w k [] = (k, refl)
line_advances L w k (b ∷ bs) = on (line_of (b ∷ bs))
  where
    on : (line : List ℕ) → Advances w (line_outcome L line_limit k w line)
    on line =
        of_cond (Advances w) (nat_lt line_limit (length line)) _ _ tt
        (of_cond (Advances w) (is_utf8 line) (reads k (con L.ok (val_then (str line) no_vals) ∷ state w (k + length line) ∷ [])) (reads_and_throws k _) (k + length line, refl) tt)

module _ (P : Source) (L : Library) (K : Library_types) (input : List ℕ) (θ : TypeChoice) where
  advances : (op : Builtin) (w : List ℕ) (vs : List Val) → EachOf P θ (at_places true (inputs_of op) (builtin_types K op)) vs → is_io_builtin op ≡ true → LastIs w vs → Advances w (outcome L input op vs)
  advances B.WriteString w [] h e l = absurd h
  advances B.WriteString w (v ∷ []) h e l = absurd h.1
  advances B.WriteString w (v ∷ u ∷ x ∷ vs) h e l = absurd h.1.1
  advances B.WriteString w (int n ∷ u ∷ []) h e l = absurd (true_not_false (sym h.0.1))
  advances B.WriteString w (char n ∷ u ∷ []) h e l = absurd (true_not_false (sym h.0.1))
  advances B.WriteString w (str s ∷ u ∷ []) h e l = written_at w s u l.0 l.1
  advances B.WriteString w (con s vs ∷ u ∷ []) h e l = absurd (none_of P vs h.0)
  advances B.WriteString w (state s k ∷ u ∷ []) h e l = absurd (true_not_false (sym h.0.1))
  advances B.WriteChar w [] h e l = absurd h
  advances B.WriteChar w (v ∷ []) h e l = absurd h.1
  advances B.WriteChar w (v ∷ u ∷ x ∷ vs) h e l = absurd h.1.1
  advances B.WriteChar w (int n ∷ u ∷ []) h e l = absurd (true_not_false (sym h.0.1))
  advances B.WriteChar w (char c ∷ u ∷ []) h e l = written_at w (encode_utf8 c) u l.0 l.1
  advances B.WriteChar w (str s ∷ u ∷ []) h e l = absurd (true_not_false (sym h.0.1))
  advances B.WriteChar w (con s vs ∷ u ∷ []) h e l = absurd (none_of P vs h.0)
  advances B.WriteChar w (state s k ∷ u ∷ []) h e l = absurd (true_not_false (sym h.0.1))
  advances B.WriteInt w [] h e l = absurd h
  advances B.WriteInt w (v ∷ []) h e l = absurd h.1
  advances B.WriteInt w (v ∷ u ∷ x ∷ vs) h e l = absurd h.1.1
  advances B.WriteInt w (int n ∷ u ∷ []) h e l = written_at w (signed_decimal n) u l.0 l.1
  advances B.WriteInt w (char c ∷ u ∷ []) h e l = absurd (true_not_false (sym h.0.1))
  advances B.WriteInt w (str s ∷ u ∷ []) h e l = absurd (true_not_false (sym h.0.1))
  advances B.WriteInt w (con s vs ∷ u ∷ []) h e l = absurd (none_of P vs h.0)
  advances B.WriteInt w (state s k ∷ u ∷ []) h e l = absurd (true_not_false (sym h.0.1))
  advances B.Write w [] h e l = absurd h
  advances B.Write w (v ∷ []) h e l = absurd h.1
  advances B.Write w (v ∷ u ∷ x ∷ vs) h e l = absurd h.1.1
  advances B.Write w (v ∷ u ∷ []) h e l = written_at w (L.text_of v) u l.0 l.1
  advances B.Nl w [] h e l = absurd h
  advances B.Nl w (u ∷ x ∷ vs) h e l = absurd h.1
  advances B.Nl w (u ∷ []) h e l = written_at w (10 ∷ []) u l.0 l.1
  advances B.ReadLine w [] h e l = absurd h
  advances B.ReadLine w (u ∷ x ∷ vs) h e l = absurd h.1
  advances B.ReadLine w (u ∷ []) h e l = subst (λ v. Advances w (outcome L input B.ReadLine (v ∷ []))) (sym l.1) (line_advances L w l.0 (drop l.0 input))
  advances B.IntPlus w vs h e l = absurd (true_not_false (sym e))
  advances B.IntMinus w vs h e l = absurd (true_not_false (sym e))
  advances B.IntTimes w vs h e l = absurd (true_not_false (sym e))
  advances B.IntQuotient w vs h e l = absurd (true_not_false (sym e))
  advances B.IntDiv w vs h e l = absurd (true_not_false (sym e))
  advances B.IntMod w vs h e l = absurd (true_not_false (sym e))
  advances B.IntRem w vs h e l = absurd (true_not_false (sym e))
  advances B.IntNegate w vs h e l = absurd (true_not_false (sym e))
  advances B.IntLess w vs h e l = absurd (true_not_false (sym e))
  advances B.IntGreater w vs h e l = absurd (true_not_false (sym e))
  advances B.IntAtMost w vs h e l = absurd (true_not_false (sym e))
  advances B.IntAtLeast w vs h e l = absurd (true_not_false (sym e))
  advances B.StringJoin w vs h e l = absurd (true_not_false (sym e))
  advances B.StringLength w vs h e l = absurd (true_not_false (sym e))
  advances B.StringCodePoints w vs h e l = absurd (true_not_false (sym e))
  advances B.IntToString w vs h e l = absurd (true_not_false (sym e))
  advances B.CharToString w vs h e l = absurd (true_not_false (sym e))
  advances B.ToCharList w vs h e l = absurd (true_not_false (sym e))
  advances B.StringToInt w vs h e l = absurd (true_not_false (sym e))
  advances B.CharToInt w vs h e l = absurd (true_not_false (sym e))
  advances B.CharFromInt w vs h e l = absurd (true_not_false (sym e))
  advances B.CharIsDigit w vs h e l = absurd (true_not_false (sym e))
  advances B.Error w vs h e l = absurd (true_not_false (sym e))

pub builtins_do_io : BuiltinsDoIo
builtins_do_io P L K input named = record { named = named; advances = λ θ p op w vs is h e l. advances P L K input θ op w vs (subst (λ ts. EachOf P θ (at_places true (inputs_of op) ts) vs) (named p op is).1 h) e l; quiet = λ p op vs is e. quiet L input op vs e }
