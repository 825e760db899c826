-- What a token stands for. (The Mercury manual's chapter 'Syntax', 'Tokens', escapes and doubled
-- quotes, in this project's profile.)
use Rattle.std.specs.Prelude.{ℕ, zero, suc, ◌+◌, ◌*◌, ◌==◌, List, [], ◌∷◌, ◌++◌, take, drop, encode_utf8, if◌then◌else◌}
use Rattle.mc_tokens.specs.Classes.{is_digit_of, hex_value}
use Rattle.mc_tokens.specs.Utf8.{char_len}
use Rattle.mc_tokens.specs.Spots.{Go, Stop, Quoting, Plain, Backslash, Digits, Exact, is_simple, quote_turn}
use Rattle.mc_tokens.specs.declared.token.Kind.{Kind}
use Rattle.mc_tokens.specs.declared.token.Kind.TheVariants.{Quoted, Str}

-- the byte that a letter or a mark after a backslash stands for
abbrev pub escaped : ℕ → ℕ
escaped x =
    if x == 97 then 7
    else if x == 98 then 8
    else if x == 102 then 12
    else if x == 110 then 10
    else if x == 114 then 13
    else if x == 116 then 9
    else if x == 118 then 11
    else x

-- what one turn inside the quotes q adds; a backslash before a line end stands for nothing
abbrev pub says : ℕ → Quoting → ℕ → List ℕ → List ℕ
says q Plain b bs =
    if b == q then q ∷ [] else if b == 92 then [] else take (char_len (b ∷ bs)) (b ∷ bs)
says q (Backslash start) b bs =
    if b == 10 then [] else if is_simple b then escaped b ∷ [] else []
says q (Digits start base value some) b bs = if is_digit_of base b then [] else encode_utf8 value
says q (Exact start zero value) b bs = encode_utf8 (16 * value + hex_value b)
says q (Exact start (suc more) value) b bs = []

-- what the bytes after an opening quote q say, up to its closing one
abbrev pub contents : ℕ → Quoting → ℕ → List ℕ → List ℕ
contents q m past [] = []
contents q m (suc past) (b ∷ bs) = contents q m past bs
contents q m zero (b ∷ bs) =
    elim (quote_turn q m 0 b bs) [ Go n past ↦ says q m b bs ++ contents q n past bs | Stop s ↦ [] ]

-- the bytes that a token of a kind with these bytes stands for
abbrev pub stands_for : Kind → List ℕ → List ℕ
stands_for Quoted bytes = contents 39 Plain 0 (drop 1 bytes)
stands_for Str bytes = contents 34 Plain 0 (drop 1 bytes)
stands_for _ bytes = bytes
