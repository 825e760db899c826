-- The character that a name may be (the Mercury manual: Overload resolution).
use Rattle.std.specs.Prelude.{ℕ, nat_eq, List, [], ◌∷◌, Option, Some, None, if◌then◌else◌}
use Rattle.std.specs.Str.{chars, is_utf8}
use Rattle.mc_decl_syntax.specs.Plain.{Path}
use Rattle.mc_names.specs.Plain.{PlainNameArity}

abbrev pub sole : List ℕ → Option ℕ
sole (c ∷ []) = Some c
sole _ = None

-- the character that a name is, where it is just one
abbrev pub sole_character : List ℕ → Option ℕ
sole_character w = if is_utf8 w then sole (chars w) else None

-- the character that a name without qualifiers and arguments may mean
abbrev pub character : (qualifiers : Path) → PlainNameArity → Option ℕ
character [] x = if nat_eq x.arity 0 then sole_character x.name else None
character _ x = None
