-- What is printed reads back, as laws about the printed text and the tokens.
use Rattle.std.specs.Prelude.{◌≡◌, ◌≢◌, ℕ, ◌+◌, ◌^◌, ◌≤◌, List, ◌++◌, length, ◌⊎◌, false, true, decimal, codes, ◌&&◌, ◌==◌}
use Rattle.std.specs.Str.{IsUtf8}
use Rattle.mc_program.specs.Printed.{in_quotes, single_quote, double_quote, is_bare}
use Rattle.mc_tokens.specs.Classes.{is_name_tail, is_digit_of}
use Rattle.mc_tokens.specs.Utf8.{at}
use Rattle.mc_tokens.specs.Tokens.{Tok, token, is_int}
use Rattle.mc_tokens.specs.Contents.{stands_for}
use Rattle.mc_tokens.specs.declared.token.Kind.{Kind}
use Rattle.mc_tokens.specs.declared.token.Kind.TheVariants.{Name, Quoted, Str, Int}

abbrev pub IsQuote : ℕ → Type 0
IsQuote q = (q ≡ single_quote) ⊎ (q ≡ double_quote)

-- the bytes before the rest are one token of the kind, which begins at start
abbrev pub IsToken : Kind → Kind → ℕ → List ℕ → List ℕ → Type 0
IsToken before kind start bytes rest =
    token before start (bytes ++ rest) ≡ Tok kind start (start + length bytes)

-- a printed string, with no double quote after it, is one token, which stands for the string's
-- bytes
abbrev pub StringsReadBack : Type 0
StringsReadBack =
    (before : Kind) (start : ℕ) (bytes rest : List ℕ) → IsUtf8 bytes → at rest 0 ≢ double_quote
    → IsToken before Str start (in_quotes double_quote bytes) rest
    × (stands_for Str (in_quotes double_quote bytes) ≡ bytes)

-- a printed character, or a name in quotes, with no single quote after it, is one token, which
-- stands for its bytes
abbrev pub QuotedNamesReadBack : Type 0
QuotedNamesReadBack =
    (before : Kind) (start : ℕ) (bytes rest : List ℕ) → IsUtf8 bytes → at rest 0 ≢ single_quote
    → IsToken before Quoted start (in_quotes single_quote bytes) rest
    × (stands_for Quoted (in_quotes single_quote bytes) ≡ bytes)

-- a name that is printed bare, not directly after a number and with no letter, digit or underscore
-- after it, is one token, which stands for itself
abbrev pub BareNamesReadBack : Type 0
BareNamesReadBack =
    (before : Kind) (start : ℕ) (name rest : List ℕ)
    → is_bare name ≡ true → is_int before ≡ false → is_name_tail (at rest 0) ≡ false
    → IsToken before Name start name rest × (stands_for Name name ≡ name)

-- a number in decimal digits, with no letter, digit, underscore, quote or fraction after it, is one
-- token of that number
abbrev pub NumbersReadBack : Type 0
NumbersReadBack =
    (before : Kind) (start n : ℕ) (rest : List ℕ)
    → n ≤ 2 ^ 63 → is_name_tail (at rest 0) ≡ false → at rest 0 ≢ single_quote
    → (at rest 0 == 46) && is_digit_of 10 (at rest 1) ≡ false
    → IsToken before (Int n) start (decimal n) rest

-- the minus sign of a negative number is a name of its own, before the number
abbrev pub MinusSignsReadBack : Type 0
MinusSignsReadBack =
    (before : Kind) (start n : ℕ) (rest : List ℕ)
    → n ≤ 2 ^ 63 → IsToken before Name start (codes "-") (decimal n ++ rest)
