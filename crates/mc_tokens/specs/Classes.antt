-- Classes of bytes (this project's profile of the Mercury manual's chapter 'Syntax', 'Tokens').
use Rattle.std.specs.Prelude.{ℕ, Bool, not, ◌&&◌, ◌||◌, ◌==◌, nat_lt, nat_le, ◌-◌, if◌then◌else◌}
use Rattle.mc_tokens.specs.declared.classes.Class.{Class}
use Rattle.mc_tokens.specs.declared.classes.Class.TheVariants.{Blank, Comment, NameTail, Symbol}

abbrev pub between : ℕ → ℕ → ℕ → Bool
between lo hi x = nat_le lo x && nat_le x hi

-- tab, line end, vertical tab, form feed, carriage return, space
abbrev pub is_blank : ℕ → Bool
is_blank x = between 9 13 x || (x == 32)

-- a letter, a digit or _
abbrev pub is_name_tail : ℕ → Bool
is_name_tail x = between 48 57 x || between 65 90 x || (x == 95) || between 97 122 x

-- # $ & * + - / : < = > ? @ \ ^ ~
abbrev pub is_symbol : ℕ → Bool
is_symbol x =
    between 35 36 x
    || (x == 38)
    || between 42 43 x
    || (x == 45)
    || (x == 47)
    || (x == 58)
    || between 60 64 x
    || (x == 92)
    || (x == 94)
    || (x == 126)

-- a byte of ASCII other than a line end and *, the bytes at which a comment needs a closer look
abbrev pub is_comment : ℕ → Bool
is_comment x = nat_lt x 128 && (not (x == 10) && not (x == 42))

-- whether a byte is of a class
abbrev pub in_class : Class → ℕ → Bool
in_class Blank x = is_blank x
in_class Comment x = is_comment x
in_class NameTail x = is_name_tail x
in_class Symbol x = is_symbol x

abbrev pub outside : Class → ℕ → Bool
outside k x = not (in_class k x)

-- 0 to 9, A to F, a to f
abbrev pub hex_digit : ℕ → Bool
hex_digit x = between 48 57 x || between 65 70 x || between 97 102 x

-- the value of such a digit
abbrev pub hex_value : ℕ → ℕ
hex_value x =
    if nat_lt x 65 then x - 48 else if nat_lt x 97 then x - 55 else x - 87

-- whether a byte is a digit of a base up to 16
abbrev pub is_digit_of : ℕ → ℕ → Bool
is_digit_of base x = hex_digit x && nat_lt (hex_value x) base

abbrev pub is_lower : ℕ → Bool
is_lower x = between 97 122 x

-- the first byte of a variable: A to Z or _
abbrev pub starts_var : ℕ → Bool
starts_var x = between 65 90 x || (x == 95)
