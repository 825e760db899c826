-- What the parts of the lexer answer, as the definitions have it.
use Rattle.std.specs.Prelude.{◌≡◌, true, slice_index, ℕ, ◌≤◌, ◌<◌, ◌^◌, Option, Some, None, Result, Ok, Err, List, length}
use Rattle.mc_tokens.specs.Classes.{is_digit_of}
use Rattle.mc_tokens.specs.Tokens.{Lexed, Tok, Fault, spelled}
use Rattle.mc_tokens.specs.Answers.{NotEmpty}
use Rattle.mc_tokens.specs.declared.token.Kind.{Kind}
use Rattle.mc_tokens.specs.declared.token.TokenFault.{TokenFault}

-- each byte is a digit of the base
abbrev pub EachDigit : ℕ → List ℕ → Type 0
EachDigit base ds = (k : ℕ) → k < length ds → is_digit_of base (slice_index ds k) ≡ true

-- the value of digits, where it is at most 2^63
abbrev pub IsValue : ℕ → List ℕ → Option ℕ → Type 0
IsValue base ds (Some v) = (v ≡ spelled base 0 ds) × (v ≤ 2 ^ 63)
IsValue base ds None = 2 ^ 63 < spelled base 0 ds

-- a kind and an end, for a token that begins at start
abbrev pub span : ℕ → Result (Kind × ℕ) TokenFault → Lexed
span start (Ok t) = Tok t.0 start t.1
span start (Err f) = Fault f.kind f.at

-- a token that begins in a place ends after it, in the text; only Eof has no bytes
abbrev pub Ends : List ℕ → ℕ → Kind × ℕ → Type 0
Ends text start t = (start ≤ t.1) × (t.1 ≤ length text) × NotEmpty t.0 start t.1
