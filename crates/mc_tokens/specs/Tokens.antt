-- The tokens (the Mercury manual's chapter 'Syntax', 'Tokens', in this project's profile).
use Rattle.std.specs.Prelude.{ℕ, ◌+◌, ◌*◌, ◌^◌, Bool, true, false, not, ◌&&◌, ◌||◌, ◌==◌, nat_lt, nat_eq, List, [], ◌∷◌, drop, take, if◌then◌else◌}
use Rattle.std.specs.List.{prefix_len}
use Rattle.mc_tokens.specs.Classes.{is_blank, is_name_tail, is_symbol, is_lower, starts_var, is_digit_of, hex_value}
use Rattle.mc_tokens.specs.Utf8.{at, char_len}
use Rattle.mc_tokens.specs.Spots.{Spot, At, Faulty, Between, layout, quote_end}
use Rattle.mc_tokens.specs.declared.token.FaultKind.{FaultKind}
use Rattle.mc_tokens.specs.declared.token.FaultKind.TheVariants.{BadChar, IntTooLarge, NotUtf8, LeftOut}
use Rattle.mc_tokens.specs.declared.begins.First.{First}
use Rattle.mc_tokens.specs.declared.begins.First.TheVariants.{Lower, Upper, Digit, Symbol, Quote, DoubleQuote, Paren, CloseParen, Square, CloseSquare, Semicolon, Bang, Other}
use Rattle.mc_tokens.specs.declared.begins.First.TheVariants as F
use Rattle.mc_tokens.specs.declared.begins.Form.{Form}
use Rattle.mc_tokens.specs.declared.begins.Form.TheVariants.{Based, Character, Decimal}
use Rattle.mc_tokens.specs.declared.token.Kind.{Kind}
use Rattle.mc_tokens.specs.declared.token.Kind.TheVariants.{Name, Quoted, Var, Int, Str, Open, OpenCt, Close, ListOpen, ListClose, Bar, Comma, Dot, End, Eof}

-- a token with the places of its first byte and of the byte after it, or a fault with its place
pub data Lexed : Type 0 where
  Tok : Kind → (start stop : ℕ) → Lexed
  Fault : (kind : FaultKind) → (place : ℕ) → Lexed

-- the number that digits of a base spell, after those whose number is n
abbrev pub spelled : ℕ → ℕ → List ℕ → ℕ
spelled base n [] = n
spelled base n (d ∷ ds) = spelled base (base * n + hex_value d) ds

-- the number of these digits, for a token from start to stop; none is above 2^63
abbrev pub number : (base start stop : ℕ) → List ℕ → Lexed
number base start stop ds =
    if nat_lt (2 ^ 63) (spelled base 0 ds) then Fault IntTooLarge start
    else Tok (Int (spelled base 0 ds)) start stop

-- the character after 0': one of ASCII that is no quote and no backslash
abbrev pub starts_character : List ℕ → Bool
starts_character [] = false
starts_character (c ∷ cs) = nat_lt c 128 && (not (c == 39) && (not (c == 34) && not (c == 92)))

-- what stands after a 0, if the byte there is c
abbrev pub form_after_zero : ℕ → List ℕ → Form
form_after_zero c rest =
    if (c == 120) && is_digit_of 16 (at rest 0) then Based 16
    else if (c == 111) && is_digit_of 8 (at rest 0) then Based 8
    else if (c == 98) && is_digit_of 2 (at rest 0) then Based 2
    else if (c == 39) && starts_character rest then Character
    else Decimal

-- the form of a number that begins here
abbrev pub form : List ℕ → Form
form bs = if at bs 0 == 48 then form_after_zero (at bs 1) (drop 2 bs) else Decimal

-- 0x, 0o or 0b and n digits
abbrev pub based : (base start n : ℕ) → List ℕ → Lexed
based base start n bs = number base start (start + (2 + n)) (take n (drop 2 bs))

-- n decimal digits; where a full stop and a digit follow they begin a float, which this profile
-- leaves out
abbrev pub decimal : (start n : ℕ) → List ℕ → Lexed
decimal start n bs =
    if (at bs n == 46) && is_digit_of 10 (at bs (n + 1)) then Fault LeftOut start
    else number 10 start (start + n) (take n bs)

-- the number of a form
abbrev pub of_form : Form → ℕ → List ℕ → Lexed
of_form (Based base) start bs = based base start (prefix_len (is_digit_of base) (drop 2 bs)) bs
of_form Character start bs = Tok (Int (at bs 2)) start (start + 3)
of_form Decimal start bs = decimal start (prefix_len (is_digit_of 10) bs) bs

-- a token that begins with a digit
unfoldable pub digits : ℕ → List ℕ → Lexed
digits start bs = of_form (form bs) start bs

-- a token in quotes that begins at start, by the place to which the walk in the quotes came
abbrev pub quoted : Kind → Spot → ℕ → Lexed
quoted k (At stop) start = Tok k start stop
quoted k (Faulty kind place) start = Fault kind place

-- whether a token of the kind is a name
abbrev pub names : Kind → Bool
names Name = true
names Quoted = true
names _ = false

abbrev pub is_var : Kind → Bool
is_var Var = true
is_var _ = false

abbrev pub is_int : Kind → Bool
is_int (Int n) = true
is_int _ = false

-- a token of letters; directly after a number its first letter is an integer tail, which this
-- profile leaves out
abbrev pub word : Kind → Kind → (start stop : ℕ) → Lexed
word before kind start stop = if is_int before then Fault LeftOut start else Tok kind start stop

-- an opening bracket; directly after a variable it is a higher-order term, which this profile
-- leaves out
abbrev pub paren : Kind → ℕ → Lexed
paren before start =
    if names before then Tok OpenCt start (start + 1)
    else if is_var before then Fault LeftOut start
    else Tok Open start (start + 1)

-- whether a full stop before these bytes ends an item
abbrev pub ends_item : List ℕ → Bool
ends_item [] = true
ends_item (b ∷ bs) = is_blank b || (b == 37)

-- a full stop: between two parts of a qualified name, or at an item's end
abbrev pub dot : Kind → ℕ → List ℕ → Lexed
dot before start bs =
    if names before && (is_lower (at bs 0) || (at bs 0 == 39)) then Tok Dot start (start + 1)
    else if ends_item bs then Tok End start (start + 1)
    else Fault BadChar start

-- ! alone, or !. or !: before a variable
abbrev pub bang : ℕ → List ℕ → Lexed
bang start bs =
    if ((at bs 0 == 46) || (at bs 0 == 58)) && starts_var (at bs 1) then Tok Name start (start + 2)
    else Tok Name start (start + 1)

-- where no token begins; bs begins with the byte there
abbrev pub other : ℕ → List ℕ → Lexed
other start bs = if char_len bs == 0 then Fault NotUtf8 start else Fault BadChar start

-- what a first byte begins
abbrev pub first : ℕ → First
first b =
    if is_lower b then Lower
    else if starts_var b then Upper
    else if is_digit_of 10 b then Digit
    else if is_symbol b then Symbol
    else if b == 39 then Quote
    else if b == 34 then DoubleQuote
    else if b == 40 then Paren
    else if b == 41 then CloseParen
    else if b == 91 then Square
    else if b == 93 then CloseSquare
    else if b == 124 then F.Bar
    else if b == 44 then F.Comma
    else if b == 46 then F.Dot
    else if b == 59 then Semicolon
    else if b == 33 then Bang
    else if (b == 96) || (b == 123) || (b == 125) then F.LeftOut
    else Other

-- the token that the byte b at start begins, with the bytes bs after it; before is the kind of the
-- token that ends at start, or Eof
abbrev pub begun : Kind → ℕ → ℕ → List ℕ → First → Lexed
begun before start b bs Lower = word before Name start (start + (1 + prefix_len is_name_tail bs))
begun before start b bs Upper = word before Var start (start + (1 + prefix_len is_name_tail bs))
begun before start b bs Digit = digits start (b ∷ bs)
begun before start b bs Symbol = Tok Name start (start + (1 + prefix_len is_symbol bs))
begun before start b bs Quote = quoted Quoted (quote_end 39 start bs) start
begun before start b bs DoubleQuote = quoted Str (quote_end 34 start bs) start
begun before start b bs Paren = paren before start
begun before start b bs CloseParen = Tok Close start (start + 1)
begun before start b bs Square = Tok ListOpen start (start + 1)
begun before start b bs CloseSquare = Tok ListClose start (start + 1)
begun before start b bs F.Bar = Tok Bar start (start + 1)
begun before start b bs F.Comma = Tok Comma start (start + 1)
begun before start b bs F.Dot = dot before start bs
begun before start b bs Semicolon = Tok Name start (start + 1)
begun before start b bs Bang = bang start bs
begun before start b bs F.LeftOut = Fault LeftOut start
begun before start b bs Other = other start (b ∷ bs)

-- the token that begins at start; before is the kind of the token that ends there, or Eof
unfoldable pub token : Kind → ℕ → List ℕ → Lexed
token before start [] = Tok Eof start start
token before start (b ∷ bs) = begun before start b bs (first b)

-- the token after blanks and comments that began in the place from; a token of kind k ended there
abbrev pub token_from : List ℕ → ℕ → Kind → Spot → Lexed
token_from text from k (At start) =
    token (if nat_eq start from then k else Eof) start (drop start text)
token_from text from k (Faulty kind place) = Fault kind place

-- The next token of a text from a place on, or the first fault; k is the kind of the token that
-- ends in that place, or Eof.
unfoldable pub lexed : List ℕ → ℕ → Kind → Lexed
lexed text from k = token_from text from k (layout Between from (drop from text))
