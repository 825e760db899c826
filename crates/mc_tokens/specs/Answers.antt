-- What the calls answer, and where their answers stand in the text.
use Rattle.std.specs.Prelude.{◌≡◌, ◌≢◌, false, ℕ, ◌≤◌, ◌<◌, Result, Ok, Err, List, length}
use Rattle.std.specs.Str.{IsAscii, IsUtf8}
use Rattle.mc_tokens.specs.Tokens.{Lexed, Tok, Fault}
use Rattle.mc_tokens.specs.Items.{ends}
use Rattle.mc_tokens.specs.declared.token.Kind.{Kind}
use Rattle.mc_tokens.specs.declared.token.Kind.TheVariants.{Name, Quoted, Var, Str, Eof}
use Rattle.mc_tokens.specs.declared.token.TokenFault.{TokenFault}
use Rattle.mc_tokens.specs.declared.token.Token.{Token}

-- the answer of a call, as the definition has it
abbrev pub answer : Result Token TokenFault → Lexed
answer (Ok t) = Tok t.kind t.start t.end
answer (Err f) = Fault f.kind f.at

-- only Eof has no bytes
abbrev pub NotEmpty : Kind → (start stop : ℕ) → Type 0
NotEmpty kind start stop = kind ≢ Eof → start < stop

-- A token's span is in order and in the text, from a place on; one that ends no item has bytes.
abbrev pub InOrder : List ℕ → ℕ → Token → Type 0
InOrder text at t =
    (at ≤ t.start)
    × (t.start ≤ t.end)
    × (t.end ≤ length text)
    × (ends t.kind ≡ false → t.start < t.end)

-- a fault stands in the text, at the place or after it
abbrev pub Placed : List ℕ → ℕ → TokenFault → Type 0
Placed text from f = (from ≤ f.at) × (f.at < length text)

-- a place that a walk from a place on comes to
abbrev pub Within : List ℕ → ℕ → ℕ → Type 0
Within text from i = (from ≤ i) × (i ≤ length text)

-- the bytes of a name or a variable without quotes are ASCII
abbrev pub AsciiName : Kind → List ℕ → Type 0
AsciiName Name bytes = IsAscii bytes
AsciiName Var bytes = IsAscii bytes
AsciiName _ bytes = Unit {0}

-- what a name, a quoted name, a variable or a string stands for is UTF-8
abbrev pub IsUtf8Text : Kind → List ℕ → List ℕ → Type 0
IsUtf8Text Name bytes text = IsAscii bytes → IsUtf8 text
IsUtf8Text Var bytes text = IsAscii bytes → IsUtf8 text
IsUtf8Text Quoted bytes text = IsUtf8 text
IsUtf8Text Str bytes text = IsUtf8 text
IsUtf8Text _ bytes text = Unit {0}
