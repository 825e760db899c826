-- Walks over blanks, comments and quotes. Each takes the bytes from a place on.
-- (The Mercury manual's chapter 'Syntax', 'Tokens', in this project's profile.)
use Rattle.std.specs.Prelude.{ℕ, zero, suc, ◌+◌, ◌-◌, ◌*◌, Bool, true, false, ◌&&◌, ◌||◌, ◌==◌, List, [], ◌∷◌, if◌then◌else◌}
use lib.Utf8.{scalar}
use Rattle.mc_tokens.specs.Classes.{is_blank, hex_digit, hex_value, is_digit_of}
use Rattle.mc_tokens.specs.Utf8.{at, char_len}
use Rattle.mc_tokens.specs.declared.token.FaultKind.{FaultKind}
use Rattle.mc_tokens.specs.declared.token.FaultKind.TheVariants.{BadChar, Unterminated, NotUtf8}

-- where a walk comes to: a place, or a fault with its place
pub data Spot : Type 0 where
  At : (place : ℕ) → Spot
  Faulty : (kind : FaultKind) → (place : ℕ) → Spot

-- One turn of a walk that is in a mode: on in a mode, past so many more bytes, or an end.
pub data Turn (M : Type 0) : Type 0 where
  Go : M → (past : ℕ) → Turn M
  Stop : Spot → Turn M

-- The turns of a walk, one for each byte that isn't passed; ends says where it comes to at the
-- text's end.
abbrev pub walk :
    {M : Type 0} → (M → ℕ → ℕ → List ℕ → Turn M) → (M → ℕ → Spot) → M → ℕ → ℕ → List ℕ → Spot
walk turn ends m past p [] = ends m p
walk turn ends m (suc past) p (b ∷ bs) = walk turn ends m past (p + 1) bs
walk turn ends m zero p (b ∷ bs) =
    elim (turn m p b bs) [ Go m past ↦ walk turn ends m past (p + 1) bs | Stop s ↦ s ]

-- on past the character that b begins
abbrev pub char_turn : {M : Type 0} → M → ℕ → ℕ → List ℕ → Turn M
char_turn m p b bs =
    if char_len (b ∷ bs) == 0 then Stop (Faulty NotUtf8 p) else Go m (char_len (b ∷ bs) - 1)

-- Blanks and comments: between them, in a comment up to the line's end, or in one that /* began at
-- start.
pub data Layout : Type 0 where
  Between : Layout
  Line : Layout
  Block : (start : ℕ) → Layout

-- A comment runs from % to the line's end, or from /* to the next */.
unfoldable pub layout_turn : Layout → ℕ → ℕ → List ℕ → Turn Layout
layout_turn Between p b bs =
    if is_blank b then Go Between 0
    else if b == 37 then Go Line 0
    else if (b == 47) && (at bs 0 == 42) then Go (Block p) 1
    else Stop (At p)
layout_turn Line p b bs = if b == 10 then Go Between 0 else char_turn Line p b bs
layout_turn (Block start) p b bs =
    if (b == 42) && (at bs 0 == 47) then Go Between 1 else char_turn (Block start) p b bs

abbrev pub layout_end : Layout → ℕ → Spot
layout_end Between p = At p
layout_end Line p = At p
layout_end (Block start) p = Faulty Unterminated start

-- the start of the next token, for bytes from the place p on
abbrev pub layout : Layout → ℕ → List ℕ → Spot
layout m p bs = walk layout_turn layout_end m 0 p bs

-- Inside quotes: between characters, after a backslash in place start, in the digits of an escape
-- that a backslash will end (some says whether there was a digit), or in one that ends after `more`
-- digits and one.
pub data Quoting : Type 0 where
  Plain : Quoting
  Backslash : (start : ℕ) → Quoting
  Digits : (start base value : ℕ) → (some : Bool) → Quoting
  Exact : (start more value : ℕ) → Quoting

-- a b f n r t v \ ' " ` and a line end, each after a backslash
abbrev pub is_simple : ℕ → Bool
is_simple x =
    (x == 97)
    || (x == 98)
    || (x == 102)
    || (x == 110)
    || (x == 114)
    || (x == 116)
    || (x == 118)
    || (x == 92)
    || (x == 39)
    || (x == 34)
    || (x == 96)
    || (x == 10)

-- what isn't UTF-8 in place p, or else an escape that names no character and whose backslash is in
-- place start
abbrev pub unescaped : (start p : ℕ) → List ℕ → Spot
unescaped start p bs = if char_len bs == 0 then Faulty NotUtf8 p else Faulty BadChar start

-- a digit of an escape of a fixed length; value is that of all its digits up to this one
abbrev pub exact_turn : (start more value : ℕ) → Turn Quoting
exact_turn start zero value = if scalar value then Go Plain 0 else Stop (Faulty BadChar start)
exact_turn start (suc more) value = Go (Exact start more value) 0

-- q is the quote
unfoldable pub quote_turn : ℕ → Quoting → ℕ → ℕ → List ℕ → Turn Quoting
quote_turn q Plain p b bs =
    if b == q then (if at bs 0 == q then Go Plain 1 else Stop (At (p + 1)))
    else if b == 92 then Go (Backslash p) 0
    else char_turn Plain p b bs
quote_turn q (Backslash start) p b bs =
    if is_simple b then Go Plain 0
    else if b == 120 then Go (Digits start 16 0 false) 0
    else if is_digit_of 8 b then Go (Digits start 8 (hex_value b) true) 0
    else if b == 117 then Go (Exact start 3 0) 0
    else if b == 85 then Go (Exact start 7 0) 0
    else Stop (unescaped start p (b ∷ bs))
quote_turn q (Digits start base value some) p b bs =
    if is_digit_of base b then Go (Digits start base (base * value + hex_value b) true) 0
    else if (b == 92) && (some && scalar value) then Go Plain 0
    else Stop (unescaped start p (b ∷ bs))
quote_turn q (Exact start more value) p b bs =
    if hex_digit b then exact_turn start more (16 * value + hex_value b)
    else Stop (unescaped start p (b ∷ bs))

-- the place after the closing quote; start is the opening quote's place, and bs the bytes after it
abbrev pub quote_end : ℕ → ℕ → List ℕ → Spot
quote_end q start bs = walk (quote_turn q) (λ m p. Faulty Unterminated start) Plain 0 (start + 1) bs
