-- Characters of UTF-8, by the table of well-formed sequences of the Unicode Standard (chapter 3,
-- table 3-7).
use Rattle.std.specs.Prelude.{ℕ, Bool, ◌&&◌, ◌==◌, nat_lt, List, [], ◌∷◌, get_or, if◌then◌else◌}
use Rattle.mc_tokens.specs.Classes.{between}

-- the byte in place i, or 0, which continues no character
abbrev pub at : List ℕ → ℕ → ℕ
at bs i = get_or bs i 0

-- a byte that stands in a character after its first
abbrev pub continues : ℕ → Bool
continues x = between 128 191 x

-- whether x may be the second byte of a character that begins with b
unfoldable pub second : ℕ → ℕ → Bool
second b x =
    if b == 224 then between 160 191 x
    else if b == 237 then between 128 159 x
    else if b == 240 then between 144 191 x
    else if b == 244 then between 128 143 x
    else continues x

-- how many bytes a character has, by its first four bytes; 0 where they are no UTF-8
unfoldable pub len_of : ℕ → ℕ → ℕ → ℕ → ℕ
len_of b c d e =
    if nat_lt b 128 then 1
    else if between 194 223 b then (if continues c then 2 else 0)
    else if between 224 239 b then (if second b c && continues d then 3 else 0)
    else if between 240 244 b then (if second b c && (continues d && continues e) then 4 else 0)
    else 0

-- how many bytes the character at the front has; 0 where the bytes there are no UTF-8
unfoldable pub char_len : List ℕ → ℕ
char_len [] = 0
char_len (b ∷ bs) = len_of b (at bs 0) (at bs 1) (at bs 2)
