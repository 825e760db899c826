-- What each builtin does at its inputs. (Mercury Language Reference Manual: the library; this
-- project's profile of numbers, which wrap at 64 bits, and of reading lines.)
use Rattle.std.specs.Prelude.{ℕ, suc, ◌+◌, ◌^◌, Bool, true, ◌&&◌, nat_eq, nat_lt, nat_le, List, [], ◌∷◌, ◌++◌, length, drop, ℤ, pos, negsuc, neg_ℤ, ◌+ℤ◌, ◌-ℤ◌, ◌*ℤ◌, int_lt, int_le, codes, encode_utf8, if◌then◌else◌}
use Rattle.std.specs.Int.{w64, int_wrap, int_div_euclid}
use Rattle.std.specs.Int.RustNames.{int_div, int_rem}
use Rattle.std.specs.Ordering.{int_eq}
use Rattle.std.specs.Fmt.{signed_decimal}
use Rattle.std.specs.Str.{chars, is_utf8, all_ascii_digits}
use Rattle.std.specs.Str.Parse.{without_leading_sign, signed_digits_value}
use Rattle.mc_program.specs.Values.{Val, int, char, str, con, state, no_vals, val_then}
use Rattle.mc_model.specs.EventList.{zero_divide, error}
use Rattle.mc_model.specs.Outcomes.{Outcome, fails, gives, throws, writes, reads, reads_and_throws}
use Rattle.mc_program.specs.declared.builtin.Builtin.{Builtin}
use Rattle.mc_program.specs.declared.builtin.Builtin.TheVariants as B

-- What builtins need to know of a program: the symbols of `[]`, `[|]` and io's `ok` and `eof`, and
-- the printed text of values.
pub record Library : Type 0 where
  pub nil : ℕ
  pub cons : ℕ
  pub ok : ℕ
  pub eof : ℕ
  pub text_of : Val → List ℕ

-- the first input is of a kind, and f says what follows at the others; no builtin does anything at
-- inputs of other kinds
abbrev pub on_int : (ℤ → List Val → Outcome) → List Val → Outcome
on_int f (int n ∷ vs) = f n vs
on_int f _ = fails

abbrev pub on_char : (ℕ → List Val → Outcome) → List Val → Outcome
on_char f (char c ∷ vs) = f c vs
on_char f _ = fails

abbrev pub on_str : (List ℕ → List Val → Outcome) → List Val → Outcome
on_str f (str s ∷ vs) = f s vs
on_str f _ = fails

abbrev pub on_state : (List ℕ → ℕ → List Val → Outcome) → List Val → Outcome
on_state f (state written taken ∷ vs) = f written taken vs
on_state f _ = fails

abbrev pub on_any : (Val → List Val → Outcome) → List Val → Outcome
on_any f [] = fails
on_any f (v ∷ vs) = f v vs

abbrev pub at_end : Outcome → List Val → Outcome
at_end o [] = o
at_end o (v ∷ vs) = fails

-- a number, which wraps at 64 bits; a text; a character
abbrev pub gives_int : ℤ → Outcome
gives_int n = gives (int (int_wrap w64 n) ∷ [])

abbrev pub gives_str : List ℕ → Outcome
gives_str s = gives (str s ∷ [])

abbrev pub gives_char : ℕ → Outcome
gives_char c = gives (char c ∷ [])

-- a test, which gives nothing
abbrev pub succeeds_if : Bool → Outcome
succeeds_if t = if t then gives [] else fails

-- a function, and a test, of two integers
abbrev pub on_two_ints : (ℤ → ℤ → Outcome) → List Val → Outcome
on_two_ints f = on_int (λ a. on_int (λ b. at_end (f a b)))

-- division by zero throws
abbrev pub divided : (ℤ → ℤ → ℤ) → List Val → Outcome
divided f = on_two_ints (λ a b. if int_eq b (pos 0) then throws zero_divide else gives_int (f a b))

-- the quotient, rounded down, and what it leaves
abbrev pub int_floor : ℤ → ℤ → ℤ
int_floor a (pos b) = int_div_euclid a (pos b)
int_floor a (negsuc b) = int_div_euclid (neg_ℤ a) (pos (suc b))

abbrev pub int_mod : ℤ → ℤ → ℤ
int_mod a b = a -ℤ (int_floor a b *ℤ b)

-- whether it is an integer of 64 bits
abbrev pub fits_64 : ℤ → Bool
fits_64 (pos n) = nat_lt n (2 ^ 63)
fits_64 (negsuc n) = nat_lt n (2 ^ 63)

-- the number that a text writes: a sign, or none, and decimal digits
abbrev pub parsed_int : List ℕ → Outcome
parsed_int s =
    if nat_lt 0 (length (without_leading_sign s))
    && all_ascii_digits (without_leading_sign s)
    && fits_64 (signed_digits_value 10 s)
    then gives (int (signed_digits_value 10 s) ∷ [])
    else fails

-- the list of the characters
abbrev pub char_list : Library → List ℕ → Val
char_list L [] = con L.nil no_vals
char_list L (c ∷ cs) = con L.cons (val_then (char c) (val_then (char_list L cs) no_vals))

-- the character of a code, which is a Unicode scalar value
abbrev pub is_scalar : ℕ → Bool
is_scalar n = if nat_lt n 0xD800 then true else nat_le 0xE000 n && nat_lt n 0x11_0000

abbrev pub char_of_code : ℤ → Outcome
char_of_code (pos n) = if is_scalar n then gives_char n else fails
char_of_code (negsuc n) = fails

-- a text is written: the state gains its bytes
abbrev pub write_at : List ℕ → List Val → Outcome
write_at t = on_state (λ written taken. at_end (writes t (state (written ++ t) taken ∷ [])))

-- what there is up to and with the first byte 10, or all of it
abbrev pub line_of : List ℕ → List ℕ
line_of [] = []
line_of (b ∷ bs) = b ∷ (if nat_eq b 10 then [] else line_of bs)

-- a line of at most so many bytes is read, or what is there is no such line
abbrev pub line_outcome : Library → (limit taken : ℕ) → (written line : List ℕ) → Outcome
line_outcome L limit taken written line =
    if nat_lt limit (length line)
    then reads_and_throws taken (error (codes "input line is too long"))
    else if is_utf8 line
    then reads taken
    (con L.ok (val_then (str line) no_vals) ∷ state written (taken + length line) ∷ [])
    else reads_and_throws taken (error (codes "input is not UTF-8"))

-- a line is read from what is left of the input; where nothing is left, `eof`
abbrev pub read_from : Library → (limit taken : ℕ) → (written left : List ℕ) → Outcome
read_from L limit taken written [] = reads taken (con L.eof no_vals ∷ state written taken ∷ [])
read_from L limit taken written (b ∷ bs) = line_outcome L limit taken written (line_of (b ∷ bs))

-- at most how many bytes a line has
abbrev pub line_limit : ℕ
line_limit = 16_777_216

-- what a builtin does at its inputs, over the program's input, which is a list of bytes
abbrev pub outcome : Library → (input : List ℕ) → Builtin → List Val → Outcome
outcome L input B.IntPlus = on_two_ints (λ a b. gives_int (a +ℤ b))
outcome L input B.IntMinus = on_two_ints (λ a b. gives_int (a -ℤ b))
outcome L input B.IntTimes = on_two_ints (λ a b. gives_int (a *ℤ b))
outcome L input B.IntQuotient = divided int_div
outcome L input B.IntDiv = divided int_floor
outcome L input B.IntMod = divided int_mod
outcome L input B.IntRem = divided int_rem
outcome L input B.IntNegate = on_int (λ a. at_end (gives_int (neg_ℤ a)))
outcome L input B.IntLess = on_two_ints (λ a b. succeeds_if (int_lt a b))
outcome L input B.IntGreater = on_two_ints (λ a b. succeeds_if (int_lt b a))
outcome L input B.IntAtMost = on_two_ints (λ a b. succeeds_if (int_le a b))
outcome L input B.IntAtLeast = on_two_ints (λ a b. succeeds_if (int_le b a))
outcome L input B.StringJoin = on_str (λ s. on_str (λ t. at_end (gives_str (s ++ t))))
outcome L input B.StringLength = on_str (λ s. at_end (gives_int (pos (length s))))
outcome L input B.StringCodePoints = on_str (λ s. at_end (gives_int (pos (length (chars s)))))
outcome L input B.IntToString = on_int (λ a. at_end (gives_str (signed_decimal a)))
outcome L input B.CharToString = on_char (λ c. at_end (gives_str (encode_utf8 c)))
outcome L input B.ToCharList = on_str (λ s. at_end (gives (char_list L (chars s) ∷ [])))
outcome L input B.StringToInt = on_str (λ s. at_end (parsed_int s))
outcome L input B.CharToInt = on_char (λ c. at_end (gives_int (pos c)))
outcome L input B.CharFromInt = on_int (λ a. at_end (char_of_code a))
outcome L input B.CharIsDigit = on_char (λ c. at_end (succeeds_if (nat_le 48 c && nat_le c 57)))
outcome L input B.WriteString = on_str (λ s. write_at s)
outcome L input B.WriteChar = on_char (λ c. write_at (encode_utf8 c))
outcome L input B.WriteInt = on_int (λ a. write_at (signed_decimal a))
outcome L input B.Write = on_any (λ v. write_at (L.text_of v))
outcome L input B.Nl = write_at (10 ∷ [])
outcome L input B.ReadLine =
    on_state (λ written taken. at_end (read_from L line_limit taken written (drop taken input)))
outcome L input B.Error = on_str (λ s. at_end (throws (error s)))
