-- The types that stand in a type over other arguments than a group allows.
use Rattle.std.specs.Prelude.{ℕ, not, List, [], ◌∷◌, ◌++◌, if◌then◌else◌}
use Rattle.mc_program.specs.Programs.{TypeTerm, union_type, TypeTerms, no_types, type_then}
use Rattle.mc_type_table.specs.Rules.{are_plain}

-- by their numbers, each behind those in its arguments
abbrev mutual
  pub grown_in : TypeTerm → List ℕ
  grown_in (union_type u ts) =
      all_grown_in ts ++ (if not (are_plain ts) then u ∷ [] else [])
  grown_in t = []

  pub all_grown_in : TypeTerms → List ℕ
  all_grown_in no_types = []
  all_grown_in (type_then t ts) = grown_in t ++ all_grown_in ts

abbrev pub grown_in_all : List TypeTerm → List ℕ
grown_in_all [] = []
grown_in_all (t ∷ ts) = grown_in t ++ grown_in_all ts
