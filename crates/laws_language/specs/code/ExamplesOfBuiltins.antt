-- Computed examples of what builtins do.
use Rattle.std.specs.Prelude.{◌≡◌, ◌≢◌, ℕ, List, [], ◌∷◌, ℤ, pos, neg_ℤ, codes}
use Rattle.mc_program.specs.Values.{Val, int, char, str, con, state, no_vals, val_then}
use Rattle.mc_model.specs.EventList.{zero_divide, error}
use Rattle.mc_model.specs.Outcomes.{Outcome, fails, gives, throws, writes, reads, reads_and_throws}
use Rattle.mc_model.specs.Builtins.{Library, outcome, read_from}
use Rattle.mc_model.specs.Worlds.{world_of}
use Rattle.mc_program.specs.declared.program.Program.{Program}
use Rattle.mc_program.specs.declared.program.Symbol.{Symbol}
use Rattle.mc_program.specs.declared.builtin.Builtin.{Builtin}
use Rattle.mc_program.specs.declared.builtin.Builtin.TheVariants as B

-- a program's symbols `[]`, `[|]`, `ok` and `eof`; every value is written `v`
abbrev pub library : Library
library = record { nil = 0; cons = 1; ok = 2; eof = 3; text_of = λ v. codes "v" }

abbrev pub does : Builtin → List Val → Outcome
does = outcome library []

-- a builtin at two integers, and at one
abbrev pub at_two : Builtin → ℤ → ℤ → Outcome
at_two op a b = does op (int a ∷ int b ∷ [])

abbrev pub at_int : Builtin → ℤ → Outcome
at_int op a = does op (int a ∷ [])

abbrev pub at_text : Builtin → List ℕ → Outcome
at_text op s = does op (str s ∷ [])

abbrev pub number : ℤ → Outcome
number n = gives (int n ∷ [])

abbrev pub minus : ℕ → ℤ
minus n = neg_ℤ (pos n)

abbrev pub greatest : ℕ
greatest = 9_223_372_036_854_775_807

abbrev pub least : ℕ
least = 9_223_372_036_854_775_808

-- numbers wrap at 64 bits
abbrev pub NumbersWrap : Type 0
NumbersWrap =
    (at_two B.IntPlus (pos greatest) (pos 1) ≡ number (minus least))
    × (at_two B.IntMinus (minus least) (pos 1) ≡ number (pos greatest))
    × (at_two B.IntTimes (pos greatest) (pos 2) ≡ number (minus 2))
    × (at_int B.IntNegate (minus least) ≡ number (minus least))
    × (at_int B.IntNegate (pos 7) ≡ number (minus 7))
    × (at_two B.IntPlus (pos greatest) (pos 1) ≢ number (pos least))

-- the two quotients and what they leave, by the signs of both numbers
abbrev pub DivisionRounds : Type 0
DivisionRounds =
    (at_two B.IntQuotient (pos 7) (pos 2) ≡ number (pos 3))
    × (at_two B.IntQuotient (minus 7) (pos 2) ≡ number (minus 3))
    × (at_two B.IntQuotient (pos 7) (minus 2) ≡ number (minus 3))
    × (at_two B.IntQuotient (minus 7) (minus 2) ≡ number (pos 3))
    × (at_two B.IntDiv (pos 7) (pos 2) ≡ number (pos 3))
    × (at_two B.IntDiv (minus 7) (pos 2) ≡ number (minus 4))
    × (at_two B.IntDiv (pos 7) (minus 2) ≡ number (minus 4))
    × (at_two B.IntDiv (minus 7) (minus 2) ≡ number (pos 3))
    × (at_two B.IntDiv (minus 6) (pos 2) ≡ number (minus 3))
    × (at_two B.IntRem (pos 7) (pos 2) ≡ number (pos 1))
    × (at_two B.IntRem (minus 7) (pos 2) ≡ number (minus 1))
    × (at_two B.IntRem (pos 7) (minus 2) ≡ number (pos 1))
    × (at_two B.IntRem (minus 7) (minus 2) ≡ number (minus 1))
    × (at_two B.IntMod (pos 7) (pos 2) ≡ number (pos 1))
    × (at_two B.IntMod (minus 7) (pos 2) ≡ number (pos 1))
    × (at_two B.IntMod (pos 7) (minus 2) ≡ number (minus 1))
    × (at_two B.IntMod (minus 7) (minus 2) ≡ number (minus 1))
    × (at_two B.IntDiv (minus 7) (pos 2) ≢ at_two B.IntQuotient (minus 7) (pos 2))

-- the least integer over -1 wraps, and a zero divisor throws
abbrev pub DivisionAtItsEnds : Type 0
DivisionAtItsEnds =
    (at_two B.IntQuotient (minus least) (minus 1) ≡ number (minus least))
    × (at_two B.IntDiv (minus least) (minus 1) ≡ number (minus least))
    × (at_two B.IntRem (minus least) (minus 1) ≡ number (pos 0))
    × (at_two B.IntMod (minus least) (minus 1) ≡ number (pos 0))
    × (at_two B.IntQuotient (pos 1) (pos 0) ≡ throws zero_divide)
    × (at_two B.IntDiv (pos 1) (pos 0) ≡ throws zero_divide)
    × (at_two B.IntRem (pos 0) (pos 0) ≡ throws zero_divide)
    × (at_two B.IntMod (minus 1) (pos 0) ≡ throws zero_divide)
    × (at_two B.IntQuotient (pos 1) (pos 0) ≢ fails)

-- comparisons give nothing, or fail
abbrev pub Comparisons : Type 0
Comparisons =
    (at_two B.IntLess (minus 1) (pos 0) ≡ gives [])
    × (at_two B.IntLess (pos 0) (pos 0) ≡ fails)
    × (at_two B.IntGreater (pos 0) (minus 1) ≡ gives [])
    × (at_two B.IntGreater (minus 1) (pos 0) ≡ fails)
    × (at_two B.IntAtMost (pos 0) (pos 0) ≡ gives [])
    × (at_two B.IntAtMost (pos 1) (pos 0) ≡ fails)
    × (at_two B.IntAtLeast (pos 0) (pos 0) ≡ gives [])
    × (at_two B.IntAtLeast (minus 2) (minus 1) ≡ fails)
    × (at_two B.IntAtMost (pos 0) (pos 0) ≢ at_two B.IntLess (pos 0) (pos 0))

-- numbers and texts
abbrev pub NumbersInTexts : Type 0
NumbersInTexts =
    (at_text B.StringToInt (codes "9223372036854775807") ≡ number (pos greatest))
    × (at_text B.StringToInt (codes "9223372036854775808") ≡ fails)
    × (at_text B.StringToInt (codes "-9223372036854775808") ≡ number (minus least))
    × (at_text B.StringToInt (codes "-9223372036854775809") ≡ fails)
    × (at_text B.StringToInt (codes "+007") ≡ number (pos 7))
    × (at_text B.StringToInt (codes "") ≡ fails)
    × (at_text B.StringToInt (codes "-") ≡ fails)
    × (at_text B.StringToInt (codes "--1") ≡ fails)
    × (at_text B.StringToInt (codes "1a") ≡ fails)
    × (at_text B.StringToInt (codes " 1") ≡ fails)
    × (at_int B.IntToString (minus 120) ≡ gives (str (codes "-120") ∷ []))
    × (at_int B.IntToString (pos 0) ≡ gives (str (codes "0") ∷ []))
    × (at_text B.StringToInt (codes "9223372036854775808") ≢ number (minus least))

-- the letter e with an acute accent: one character of two bytes
abbrev pub accented : List ℕ
accented = 0xC3 ∷ 0xA9 ∷ []

abbrev pub accented_code : ℕ
accented_code = 0xE9

-- characters and texts
abbrev pub CharactersInTexts : Type 0
CharactersInTexts =
    (at_text B.StringLength accented ≡ number (pos 2))
    × (at_text B.StringCodePoints accented ≡ number (pos 1))
    × (at_text B.ToCharList accented
    ≡ gives (con 1 (val_then (char accented_code) (val_then (con 0 no_vals) no_vals)) ∷ []))
    × (does B.CharToString (char accented_code ∷ []) ≡ gives (str accented ∷ []))
    × (does B.CharToInt (char accented_code ∷ []) ≡ number (pos 233))
    × (at_int B.CharFromInt (pos 233) ≡ gives (char accented_code ∷ []))
    × (at_int B.CharFromInt (pos 0xD800) ≡ fails)
    × (at_int B.CharFromInt (pos 0x10_FFFF) ≡ gives (char 0x10_FFFF ∷ []))
    × (at_int B.CharFromInt (pos 0x11_0000) ≡ fails)
    × (at_int B.CharFromInt (minus 1) ≡ fails)
    × (does B.CharIsDigit (char 0x39 ∷ []) ≡ gives [])
    × (does B.CharIsDigit (char 0x3A ∷ []) ≡ fails)
    × (does B.StringJoin (str (codes "ab") ∷ str (codes "c") ∷ []) ≡ gives (str (codes "abc") ∷ []))
    × (at_text B.StringLength accented ≢ at_text B.StringCodePoints accented)

-- what is written is gained by the state
abbrev pub Writing : Type 0
Writing =
    (does B.WriteString (str (codes "b") ∷ state (codes "a") 4 ∷ [])
    ≡ writes (codes "b") (state (codes "ab") 4 ∷ []))
    × (does B.WriteChar (char accented_code ∷ state [] 0 ∷ [])
    ≡ writes accented (state accented 0 ∷ []))
    × (does B.WriteInt (int (minus 3) ∷ state [] 0 ∷ [])
    ≡ writes (codes "-3") (state (codes "-3") 0 ∷ []))
    × (does B.Write (con 5 no_vals ∷ state [] 0 ∷ [])
    ≡ writes (codes "v") (state (codes "v") 0 ∷ []))
    × (does B.Nl (state [] 0 ∷ []) ≡ writes (10 ∷ []) (state (10 ∷ []) 0 ∷ []))
    × (at_text B.Error (codes "bad") ≡ throws (error (codes "bad")))
    × (does B.Nl (state [] 0 ∷ []) ≢ writes (10 ∷ []) (state [] 0 ∷ []))

-- the input `ab`, a line end, `cd`
abbrev pub two_lines : List ℕ
two_lines = 97 ∷ 98 ∷ 10 ∷ 99 ∷ 100 ∷ []

abbrev pub reading_at : ℕ → Outcome
reading_at k = outcome library two_lines B.ReadLine (state [] k ∷ [])

abbrev pub a_line : List ℕ → Val
a_line line = con 2 (val_then (str line) no_vals)

-- lines are read from the byte that is next, with their line ends
abbrev pub Reading : Type 0
Reading =
    (reading_at 0 ≡ reads 0 (a_line (97 ∷ 98 ∷ 10 ∷ []) ∷ state [] 3 ∷ []))
    × (reading_at 3 ≡ reads 3 (a_line (99 ∷ 100 ∷ []) ∷ state [] 5 ∷ []))
    × (reading_at 5 ≡ reads 5 (con 3 no_vals ∷ state [] 5 ∷ []))
    × (read_from library 3 0 [] two_lines ≡ reads 0 (a_line (97 ∷ 98 ∷ 10 ∷ []) ∷ state [] 3 ∷ []))
    × (read_from library 2 0 [] two_lines
    ≡ reads_and_throws 0 (error (codes "input line is too long")))
    × (outcome library (255 ∷ []) B.ReadLine (state [] 0 ∷ [])
    ≡ reads_and_throws 0 (error (codes "input is not UTF-8")))
    × (reading_at 0 ≢ reading_at 3)

-- a program's symbol without argument types, which no builtin reads
abbrev pub symbol_named : (module_name bytes : List ℕ) → ℕ → Symbol
symbol_named m n a =
    record { name = record { «module» = m; name = n; arity = a }; of_type = 0; args = [] }

-- a program with a constructor of its own before those of lists and those that lines are read as
abbrev pub a_program : Program
a_program =
    record {
      types = [];
      symbols =
          symbol_named (codes "q") (codes "a b") 0
          ∷ symbol_named (codes "list") (codes "[]") 0
          ∷ symbol_named (codes "list") (codes "[|]") 2
          ∷ symbol_named (codes "io") (codes "ok") 1
          ∷ symbol_named (codes "io") (codes "eof") 0
          ∷ [];
      preds = [];
    }

abbrev pub in_program : Builtin → List Val → Outcome
in_program = (world_of a_program (codes "x\n")).outcome

-- in a program lists are made of its symbols, and a value is written by their names: `['a b', 7]`
abbrev pub InPrograms : Type 0
InPrograms =
    (in_program B.ToCharList (str (codes "z") ∷ [])
    ≡ gives (con 2 (val_then (char 122) (val_then (con 1 no_vals) no_vals)) ∷ []))
    × (in_program B.Write (con 2 (val_then (con 0 no_vals)
    (val_then (con 2 (val_then (int (pos 7)) (val_then (con 1 no_vals) no_vals))) no_vals))
    ∷ state [] 0 ∷ [])
    ≡ writes (codes "['a b', 7]") (state (codes "['a b', 7]") 0 ∷ []))
    × (in_program B.ReadLine (state [] 0 ∷ [])
    ≡ reads 0 (con 3 (val_then (str (codes "x\n")) no_vals) ∷ state [] 2 ∷ []))
    × (in_program B.ReadLine (state [] 2 ∷ []) ≡ reads 2 (con 4 no_vals ∷ state [] 2 ∷ []))
    × (in_program B.Write (con 0 no_vals ∷ state [] 0 ∷ [])
    ≢ writes (codes "a b") (state (codes "a b") 0 ∷ []))
