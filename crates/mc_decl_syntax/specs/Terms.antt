-- What the forms of declarations ask of terms: paths, heads of definitions (the Mercury
-- manual: Declarations).
use Rattle.std.specs.Prelude.{ℕ, Bool, true, false, not, ◌&&◌, List, [], ◌∷◌, Option, Some, None, codes, if◌then◌else◌}
use Rattle.std.specs.Option.{is_some, option_or}
use Rattle.std.specs.Str.{bytes_eq}
use Rattle.std.specs.Set.{is_member}
use Rattle.mc_term_data.specs.Plain.{PlainTerm, PlainTerms, at, no_term, more_terms, App, Conj, Disj}
use Rattle.mc_term_data.specs.Names.{Row, row, found}
use Rattle.mc_term_data.specs.Shapes.{is_word, is_the_word, has_none, one, variable, constant, operands}
use Rattle.mc_source.specs.declared.det.Det.{Det}
use Rattle.mc_source.specs.Determinism.{Determinism, erroneous, failure, det, semidet, multi, nondet, inferred}
use Rattle.mc_decl_syntax.specs.Plain.{Path}

-- a name without arguments, by its parts
abbrev pub path : PlainTerm → Option Path
path (at (App w ts) l) = if has_none ts then Some w else None
path _ = None

-- what stands behind the `:-` of a declaration
abbrev pub declared_part : PlainTerm → Option PlainTerm
declared_part (at (App w ts) l) = if is_the_word (codes ":-") w then one ts else None
declared_part _ = None

-- the one part of a name
abbrev pub only : PlainTerm → Option PlainTerm
only (at (App w ts) l) = one ts
only _ = None

-- the terms that `;` stands between
abbrev pub alternatives : PlainTerm → PlainTerms
alternatives (at (Disj ts) l) = ts
alternatives t = more_terms t no_term

-- the terms that `,` stands between
abbrev pub conjuncts : PlainTerm → PlainTerms
conjuncts (at (Conj ts) l) = ts
conjuncts t = more_terms t no_term

abbrev pub joined : Option Path → Option (List Path) → Option (List Path)
joined (Some w) (Some ws) = Some (w ∷ ws)
joined _ _ = None

-- names without arguments, each by its parts
abbrev pub paths : PlainTerms → Option (List Path)
paths no_term = Some []
paths (more_terms t ts) = joined (path t) (paths ts)

abbrev pub are_variables : PlainTerms → Bool
are_variables no_term = true
are_variables (more_terms t ts) = is_some (variable t) && are_variables ts

-- names with one more in front; each `_` is a variable of its own, which has no name
abbrev pub with_name : Option (List ℕ) → List (List ℕ) → List (List ℕ)
with_name None xs = xs
with_name (Some x) xs = if bytes_eq x (codes "_") then xs else x ∷ xs

-- the names of variables among terms
abbrev pub names_in : PlainTerms → List (List ℕ)
names_in no_term = []
names_in (more_terms t ts) = with_name (variable t) (names_in ts)

-- no name stands twice
abbrev pub is_distinct : List (List ℕ) → Bool
is_distinct [] = true
is_distinct (x ∷ xs) = not (is_member bytes_eq xs x) && is_distinct xs

-- the names of distinct variables
abbrev pub parameters_in : PlainTerms → Option (List (List ℕ))
parameters_in ts =
    if are_variables ts && is_distinct (names_in ts) then Some (names_in ts) else None

-- The parameters of a definition, by its head: a name without qualifiers over distinct variables.
abbrev pub parameters : PlainTerm → Option (List (List ℕ))
parameters (at (App w ts) l) = if is_word w then parameters_in ts else None
parameters _ = None

-- a determinism that commits to its first answer
abbrev pub committed : Determinism → Det
committed d = record { can_fail = d.can_fail; most = d.most; committed = true }

-- the determinisms, in two tables
unfoldable pub common_determinisms : List (Row Det)
common_determinisms =
    row (codes "det") 0 (inferred det)
    ∷ row (codes "semidet") 0 (inferred semidet)
    ∷ row (codes "multi") 0 (inferred multi)
    ∷ row (codes "nondet") 0 (inferred nondet)
    ∷ []

unfoldable pub rare_determinisms : List (Row Det)
rare_determinisms =
    row (codes "cc_multi") 0 (committed multi)
    ∷ row (codes "cc_nondet") 0 (committed nondet)
    ∷ row (codes "erroneous") 0 (inferred erroneous)
    ∷ row (codes "failure") 0 (inferred failure)
    ∷ []

abbrev pub named_determinism : Option (List ℕ) → Option Det
named_determinism None = None
named_determinism (Some w) = option_or (found common_determinisms w 0) (found rare_determinisms w 0)

-- the determinism of a name
abbrev pub determinism : PlainTerm → Option Det
determinism t = named_determinism (constant t)

abbrev pub with_determinism : PlainTerm → Option Det → Option (PlainTerm × Option Det)
with_determinism t None = None
with_determinism t (Some d) = Some (t, Some d)

abbrev pub split_is : PlainTerm → Option (PlainTerm × PlainTerm) → Option (PlainTerm × Option Det)
split_is t None = Some (t, None)
split_is t (Some p) = with_determinism p.0 (determinism p.1)

-- A declaration, and its determinism where `is D` stands behind it; none where what stands behind
-- `is` is no determinism.
abbrev pub declared_as : PlainTerm → Option (PlainTerm × Option Det)
declared_as t = split_is t (operands (codes "is") t)
