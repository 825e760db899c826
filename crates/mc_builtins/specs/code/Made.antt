-- What a builtin makes of its inputs, as its outcome.
use Rattle.std.specs.Prelude.{List, [], ◌∷◌, encode_utf8, ℕ, ℤ, pos, Bool, Option, Some, None, if◌then◌else◌}
use Rattle.std.specs.Int.{w64, int_wrap}
use Rattle.std.specs.Ordering.{int_eq}
use Rattle.std.specs.Fmt.{signed_decimal}
use Rattle.mc_program.specs.Values.{Val, int, char, str}
use Rattle.mc_model.specs.Outcomes.{Outcome, fails, gives, throws}
use Rattle.mc_model.specs.Builtins.{Library, char_list}
use Rattle.mc_model.specs.declared.run.Exception.TheVariants as X
use Rattle.mc_program.specs.declared.builtin.Builtin.{Builtin}
use Rattle.mc_program.specs.declared.builtin.Builtin.TheVariants as B
use Rattle.mc_builtins.specs.Answers.{plain_exception}
use Rattle.mc_builtins.specs.declared.made.Made.{Made}
use Rattle.mc_builtins.specs.declared.made.Made.TheVariants as M

abbrev pub made_outcome : Library → Made → Outcome
made_outcome L M.Fails = fails
made_outcome L M.Succeeds = gives []
made_outcome L (M.Int n) = gives (int n ∷ [])
made_outcome L (M.Char c) = gives (char c ∷ [])
made_outcome L (M.Text t) = gives (str t ∷ [])
made_outcome L (M.Chars cs) = gives (char_list L cs.items ∷ [])
made_outcome L (M.Throws e) = throws (plain_exception e)

-- a number, and where there is none a zero divisor is thrown
abbrev pub number_made : Option ℤ → Made
number_made None = M.Throws X.ZeroDivide
number_made (Some n) = M.Int n

-- a test succeeds or fails
abbrev pub test_made : Bool → Made
test_made holds = if holds then M.Succeeds else M.Fails

-- what a division of two numbers gives, wrapped; none by zero
abbrev pub quotient_of : (ℤ → ℤ → ℤ) → ℤ → ℤ → Option ℤ
quotient_of f a b = if int_eq b (pos 0) then None else Some (int_wrap w64 (f a b))

-- what a builtin writes of an input; none where it writes nothing of it
abbrev pub written_text : Library → Builtin → Val → Option (List ℕ)
written_text L B.WriteString (str s) = Some s
written_text L B.WriteChar (char c) = Some (encode_utf8 c)
written_text L B.WriteInt (int n) = Some (signed_decimal n)
written_text L B.Write v = Some (L.text_of v)
written_text L op v = None
