-- Types that are well formed: each union has as many arguments as it is declared with. (Mercury
-- Language Reference Manual: Types.)
use Rattle.std.specs.Prelude.{◌≡◌, ℕ, suc, ◌<◌, List, [], ◌∷◌, Option, Some}
use Rattle.mc_program.specs.Programs.{TypeTerm, int_type, char_type, string_type, state_type, variable_type, union_type, TypeTerms, no_types, type_then}

-- how many parameters a union type has; None where the number is no type's
abbrev pub Parameters : Type 0
Parameters = ℕ → Option ℕ

abbrev pub count_types : TypeTerms → ℕ
count_types no_types = 0
count_types (type_then t ts) = suc (count_types ts)

abbrev mutual
  pub ProperType : Parameters → TypeTerm → Type 0
  ProperType D int_type = Unit {0}
  ProperType D char_type = Unit {0}
  ProperType D string_type = Unit {0}
  ProperType D state_type = Unit {0}
  ProperType D (variable_type v) = Unit {0}
  ProperType D (union_type u ts) = (D u ≡ Some (count_types ts)) × ProperTypes D ts

  pub ProperTypes : Parameters → TypeTerms → Type 0
  ProperTypes D no_types = Unit {0}
  ProperTypes D (type_then t ts) = ProperType D t × ProperTypes D ts

abbrev pub EachProper : Parameters → List TypeTerm → Type 0
EachProper D [] = Unit {0}
EachProper D (t ∷ ts) = ProperType D t × EachProper D ts

-- the type's variables are below a number
abbrev mutual
  pub Below : ℕ → TypeTerm → Type 0
  Below k int_type = Unit {0}
  Below k char_type = Unit {0}
  Below k string_type = Unit {0}
  Below k state_type = Unit {0}
  Below k (variable_type v) = v < k
  Below k (union_type u ts) = AllBelow k ts

  pub AllBelow : ℕ → TypeTerms → Type 0
  AllBelow k no_types = Unit {0}
  AllBelow k (type_then t ts) = Below k t × AllBelow k ts

abbrev pub EachBelow : ℕ → List TypeTerm → Type 0
EachBelow k [] = Unit {0}
EachBelow k (t ∷ ts) = Below k t × EachBelow k ts
