-- Of the builtins, only `read_line_as_string` reads the input.
use Rattle.std.proofs.Common.{◌≡◌, ℕ, ℤ, pos, Bool, true, false, ◌&&◌, List, [], ◌∷◌, ◌++◌, length, Option, Some, None, map, refl}
use Rattle.std.specs.Prelude.{negsuc, neg_ℤ, ◌+ℤ◌, ◌-ℤ◌, ◌*ℤ◌, int_lt, int_le, nat_lt, nat_le, encode_utf8, if◌then◌else◌}
use Rattle.std.specs.Int.RustNames.{int_div, int_rem}
use Rattle.std.specs.Ordering.{int_eq}
use Rattle.std.specs.Fmt.{signed_decimal}
use Rattle.std.specs.Str.{chars, all_ascii_digits}
use Rattle.std.specs.Str.Parse.{without_leading_sign, signed_digits_value}
use Rattle.mc_program.specs.Values.{Val, int, char, str, state}
use Rattle.mc_program.specs.declared.builtin.Builtin.{Builtin}
use Rattle.mc_program.specs.declared.builtin.Builtin.TheVariants as B
use Rattle.mc_model.specs.EventList.{End, Stuck, Stopped, Answer, Wrote, Read, thrown, of_option, zero_divide, error}
use Rattle.mc_model.specs.Outcomes.{Outcome, fails, gives, throws, writes, reads, reads_and_throws}
use Rattle.mc_model.specs.Builtins.{Library, outcome, on_int, on_char, on_str, on_state, on_any, at_end, on_two_ints, gives_int, gives_str, gives_char, succeeds_if, divided, int_floor, int_mod, fits_64, parsed_int, char_list, char_of_code, is_scalar, write_at}
use Rattle.mc_model.specs.Stream.{Bindings, unify, outcome_items, apply_items}
use Rattle.mc_plain.specs.Atoms.{ReadsFrom}

-- the outcome is not a reading
abbrev Unread : Outcome → Type 0
Unread (reads k vs) = ⊥
Unread (reads_and_throws k x) = ⊥
Unread _ = Unit {0}

int_unread : (f : ℤ → List Val → Outcome) → ((n : ℤ) (vs : List Val) → Unread (f n vs)) → (vs : List Val) → Unread (on_int f vs)
int_unread f h [] = tt
int_unread f h (int n ∷ vs) = h n vs
int_unread f h (v ∷ vs) = tt

char_unread : (f : ℕ → List Val → Outcome) → ((c : ℕ) (vs : List Val) → Unread (f c vs)) → (vs : List Val) → Unread (on_char f vs)
char_unread f h [] = tt
char_unread f h (char c ∷ vs) = h c vs
char_unread f h (v ∷ vs) = tt

str_unread : (f : List ℕ → List Val → Outcome) → ((s : List ℕ) (vs : List Val) → Unread (f s vs)) → (vs : List Val) → Unread (on_str f vs)
str_unread f h [] = tt
str_unread f h (str s ∷ vs) = h s vs
str_unread f h (v ∷ vs) = tt

state_unread : (f : List ℕ → ℕ → List Val → Outcome) → ((w : List ℕ) (k : ℕ) (vs : List Val) → Unread (f w k vs)) → (vs : List Val) → Unread (on_state f vs)
state_unread f h [] = tt
state_unread f h (state w k ∷ vs) = h w k vs
state_unread f h (v ∷ vs) = tt

end_unread : (o : Outcome) → Unread o → (vs : List Val) → Unread (at_end o vs)
end_unread o h [] = h
end_unread o h (v ∷ vs) = tt

either_unread : (b : Bool) (o p : Outcome) → Unread o → Unread p → Unread (if b then o else p)
either_unread true o p x y = x
either_unread false o p x y = y

two_unread : (f : ℤ → ℤ → Outcome) → ((a b : ℤ) → Unread (f a b)) → (vs : List Val) → Unread (on_two_ints f vs)
two_unread f h =
    int_unread (λ a. on_int (λ b. at_end (f a b))) (λ a. int_unread (λ b. at_end (f a b)) (λ b. end_unread (f a b) (h a b)))

divided_unread : (f : ℤ → ℤ → ℤ) (vs : List Val) → Unread (divided f vs)
divided_unread f =
    two_unread (λ a b. if int_eq b (pos 0) then throws zero_divide else gives_int (f a b)) (λ a b. either_unread (int_eq b (pos 0)) (throws zero_divide) (gives_int (f a b)) tt tt)

test_unread : (b : Bool) → Unread (succeeds_if b)
test_unread b = either_unread b (gives []) fails tt tt

code_unread : (n : ℤ) → Unread (char_of_code n)
code_unread (pos n) = either_unread (is_scalar n) (gives_char n) fails tt tt
code_unread (negsuc n) = tt

parsed_unread : (s : List ℕ) → Unread (parsed_int s)
parsed_unread s =
    either_unread (nat_lt 0 (length (without_leading_sign s)) && all_ascii_digits (without_leading_sign s) && fits_64 (signed_digits_value 10 s)) (gives (int (signed_digits_value 10 s) ∷ [])) fails tt tt

write_unread : (t : List ℕ) (vs : List Val) → Unread (write_at t vs)
write_unread t =
    state_unread (λ written taken. at_end (writes t (state (written ++ t) taken ∷ []))) (λ w k. end_unread (writes t (state (w ++ t) k ∷ [])) tt)

any_write_unread : (L : Library) (vs : List Val) → Unread (on_any (λ v. write_at (L.text_of v)) vs)
any_write_unread L [] = tt
any_write_unread L (v ∷ vs) = write_unread (L.text_of v) vs

-- what is an answer or none begins with no wish for input
option_unread : (o : Option Bindings) (from : ℕ) → ReadsFrom from (of_option o) → ⊥
option_unread None from r = let q : End ≡ Read from r.0 = r.1 in cc
option_unread (Some e) from r = let q : Answer e End ≡ Read from r.0 = r.1 in cc

module _ (ys : List ℕ) (e : Bindings) (from : ℕ) where
  unread_items : (o : Outcome) → Unread o → ReadsFrom from (outcome_items ys e o) → ⊥
  unread_items fails u r = let q : End ≡ Read from r.0 = r.1 in cc
  unread_items (gives vs) u r = option_unread (unify ys (map Some vs) e) from r
  unread_items (throws x) u r = let q : Stopped (thrown x) ≡ Read from r.0 = r.1 in cc
  unread_items (writes t vs) u r = let q : Wrote t (of_option (unify ys (map Some vs) e)) ≡ Read from r.0 = r.1 in cc
  unread_items (reads k vs) u r = u
  unread_items (reads_and_throws k x) u r = u

  module _ (L : Library) (input : List ℕ) where
    outcome_reading : (op : Builtin) (vs : List Val) → ReadsFrom from (outcome_items ys e (outcome L input op vs)) → op ≡ B.ReadLine
    outcome_reading B.IntPlus vs r = absurd (unread_items _ (two_unread (λ a b. gives_int (a +ℤ b)) (λ a b. tt) vs) r)
    outcome_reading B.IntMinus vs r = absurd (unread_items _ (two_unread (λ a b. gives_int (a -ℤ b)) (λ a b. tt) vs) r)
    outcome_reading B.IntTimes vs r = absurd (unread_items _ (two_unread (λ a b. gives_int (a *ℤ b)) (λ a b. tt) vs) r)
    outcome_reading B.IntQuotient vs r = absurd (unread_items _ (divided_unread int_div vs) r)
    outcome_reading B.IntDiv vs r = absurd (unread_items _ (divided_unread int_floor vs) r)
    outcome_reading B.IntMod vs r = absurd (unread_items _ (divided_unread int_mod vs) r)
    outcome_reading B.IntRem vs r = absurd (unread_items _ (divided_unread int_rem vs) r)
    outcome_reading B.IntNegate vs r = absurd (unread_items _ (int_unread (λ a. at_end (gives_int (neg_ℤ a))) (λ a. end_unread (gives_int (neg_ℤ a)) tt) vs) r)
    outcome_reading B.IntLess vs r = absurd (unread_items _ (two_unread (λ a b. succeeds_if (int_lt a b)) (λ a b. test_unread (int_lt a b)) vs) r)
    outcome_reading B.IntGreater vs r = absurd (unread_items _ (two_unread (λ a b. succeeds_if (int_lt b a)) (λ a b. test_unread (int_lt b a)) vs) r)
    outcome_reading B.IntAtMost vs r = absurd (unread_items _ (two_unread (λ a b. succeeds_if (int_le a b)) (λ a b. test_unread (int_le a b)) vs) r)
    outcome_reading B.IntAtLeast vs r = absurd (unread_items _ (two_unread (λ a b. succeeds_if (int_le b a)) (λ a b. test_unread (int_le b a)) vs) r)
    outcome_reading B.StringJoin vs r =
        absurd (unread_items _ (str_unread (λ s. on_str (λ t. at_end (gives_str (s ++ t)))) (λ s. str_unread (λ t. at_end (gives_str (s ++ t))) (λ t. end_unread (gives_str (s ++ t)) tt)) vs) r)
    outcome_reading B.StringLength vs r = absurd (unread_items _ (str_unread (λ s. at_end (gives_int (pos (length s)))) (λ s. end_unread (gives_int (pos (length s))) tt) vs) r)
    outcome_reading B.StringCodePoints vs r = absurd (unread_items _ (str_unread (λ s. at_end (gives_int (pos (length (chars s))))) (λ s. end_unread (gives_int (pos (length (chars s)))) tt) vs) r)
    outcome_reading B.IntToString vs r = absurd (unread_items _ (int_unread (λ a. at_end (gives_str (signed_decimal a))) (λ a. end_unread (gives_str (signed_decimal a)) tt) vs) r)
    outcome_reading B.CharToString vs r = absurd (unread_items _ (char_unread (λ c. at_end (gives_str (encode_utf8 c))) (λ c. end_unread (gives_str (encode_utf8 c)) tt) vs) r)
    outcome_reading B.ToCharList vs r = absurd (unread_items _ (str_unread (λ s. at_end (gives (char_list L (chars s) ∷ []))) (λ s. end_unread (gives (char_list L (chars s) ∷ [])) tt) vs) r)
    outcome_reading B.StringToInt vs r = absurd (unread_items _ (str_unread (λ s. at_end (parsed_int s)) (λ s. end_unread (parsed_int s) (parsed_unread s)) vs) r)
    outcome_reading B.CharToInt vs r = absurd (unread_items _ (char_unread (λ c. at_end (gives_int (pos c))) (λ c. end_unread (gives_int (pos c)) tt) vs) r)
    outcome_reading B.CharFromInt vs r = absurd (unread_items _ (int_unread (λ a. at_end (char_of_code a)) (λ a. end_unread (char_of_code a) (code_unread a)) vs) r)
    outcome_reading B.CharIsDigit vs r = absurd (unread_items _ (char_unread (λ c. at_end (succeeds_if (nat_le 48 c && nat_le c 57))) (λ c. end_unread (succeeds_if (nat_le 48 c && nat_le c 57)) (test_unread (nat_le 48 c && nat_le c 57))) vs) r)
    outcome_reading B.WriteString vs r = absurd (unread_items _ (str_unread (λ s. write_at s) write_unread vs) r)
    outcome_reading B.WriteChar vs r = absurd (unread_items _ (char_unread (λ c. write_at (encode_utf8 c)) (λ c. write_unread (encode_utf8 c)) vs) r)
    outcome_reading B.WriteInt vs r = absurd (unread_items _ (int_unread (λ a. write_at (signed_decimal a)) (λ a. write_unread (signed_decimal a)) vs) r)
    outcome_reading B.Write vs r = absurd (unread_items _ (any_write_unread L vs) r)
    outcome_reading B.Nl vs r = absurd (unread_items _ (write_unread (10 ∷ []) vs) r)
    outcome_reading B.ReadLine vs r = refl
    outcome_reading B.Error vs r = absurd (unread_items _ (str_unread (λ s. at_end (throws (error s))) (λ s. end_unread (throws (error s)) tt) vs) r)

    pub only_reading : (op : Builtin) (o : Option (List Val)) → ReadsFrom from (apply_items (outcome L input op) ys e o) → op ≡ B.ReadLine
    only_reading op None r = let q : Stuck ≡ Read from r.0 = r.1 in cc
    only_reading op (Some vs) r = outcome_reading op vs r
