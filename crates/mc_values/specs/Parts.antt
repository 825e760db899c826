-- What a value is made of. (Mercury Language Reference Manual: Types.)
use Rattle.std.specs.Prelude.{ℕ, ℤ, ◌+◌, List, [], ◌++◌, Option, Some, None, IsSome}
use Rattle.mc_program.specs.Values.{Val, int, char, str, con, state, listed}

-- the integer that a value is
abbrev pub int_of : Val → Option ℤ
int_of (int n) = Some n
int_of _ = None

-- the character that a value is
abbrev pub char_of : Val → Option ℕ
char_of (char c) = Some c
char_of _ = None

-- the bytes of the string that a value is
abbrev pub text_of : Val → Option (List ℕ)
text_of (str bytes) = Some bytes
text_of _ = None

-- the constructor that stands at the top of a value
abbrev pub symbol_of : Val → Option ℕ
symbol_of (con symbol args) = Some symbol
symbol_of _ = None

-- the arguments of a constructor; any other value has none
abbrev pub arguments : Val → List Val
arguments (con symbol args) = listed args
arguments _ = []

-- the number of input bytes that had been taken at a state of io
abbrev pub taken_of : Val → Option ℕ
taken_of (state written taken) = Some taken
taken_of _ = None

-- a value that is a state of io
abbrev pub IsState : Val → Type 0
IsState v = IsSome (taken_of v)

-- a state of io with more bytes written after its own
abbrev pub with_written : Val → List ℕ → Val
with_written (state written taken) more = state (written ++ more) taken
with_written v more = v

-- a state of io with more input bytes taken
abbrev pub with_taken : Val → ℕ → Val
with_taken (state written taken) more = state written (taken + more)
with_taken v more = v
