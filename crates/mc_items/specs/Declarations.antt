-- The declarations that this profile leaves out (the Mercury manual: Declarations, Existential
-- types, Type classes, Pragmas).
use Rattle.std.specs.Prelude.{ℕ, Bool, true, false, ◌&&◌, ◌||◌, List, [], ◌∷◌, Option, Some, None, codes, bytes_eq, if◌then◌else◌}
use Rattle.std.specs.Bool.{then_some}
use Rattle.mc_term_data.specs.Plain.{PlainTerm, PlainTerms, at, no_term, more_terms, Int, Str, App}
use Rattle.mc_term_data.specs.Shapes.{has_none}
use Rattle.mc_items.specs.declared.reason.LeftOut.{LeftOut}
use Rattle.mc_items.specs.declared.reason.LeftOut.TheVariants as L

-- `pred` or `func`
abbrev pub is_order : List ℕ → Bool
is_order w = bytes_eq (codes "pred") w || bytes_eq (codes "func") w

-- a constraint of type classes stands behind either
abbrev pub is_constraint : List ℕ → Bool
is_constraint w = bytes_eq (codes "<=") w || bytes_eq (codes "=>") w

-- the declaration of a predicate or function, constraints of type classes behind it or not
abbrev mutual
  pub declares : PlainTerm → Bool
  declares (at (App (w ∷ []) ts) l) = declared w ts
  declares _ = false

  pub declared : List ℕ → PlainTerms → Bool
  declared w (more_terms t no_term) = is_order w
  declared w (more_terms t (more_terms u no_term)) = is_constraint w && declares t
  declared w _ = false

-- a name without parts
abbrev pub is_constant : PlainTerm → Bool
is_constant (at (App w ts) l) = has_none ts
is_constant _ = false

abbrev pub is_number : PlainTerm → Bool
is_number (at (Int n) l) = true
is_number _ = false

abbrev pub is_string : PlainTerm → Bool
is_string (at (Str s) l) = true
is_string _ = false

-- `p/2`
abbrev pub indicates : List ℕ → PlainTerms → Bool
indicates w (more_terms t (more_terms u no_term)) =
    bytes_eq (codes "/") w && (is_constant t && is_number u)
indicates w _ = false

abbrev pub is_name_arity : PlainTerm → Bool
is_name_arity (at (App (w ∷ []) ts) l) = indicates w ts
is_name_arity _ = false

-- `pred(p/2)`
abbrev pub indicates_pred : List ℕ → PlainTerms → Bool
indicates_pred w (more_terms t no_term) = bytes_eq (codes "pred") w && is_name_arity t
indicates_pred w _ = false

-- a predicate, by its name and the number of its arguments
abbrev pub is_predicate : PlainTerm → Bool
is_predicate (at (App (w ∷ []) ts) l) = indicates w ts || indicates_pred w ts
is_predicate _ = false

-- the arguments of a pragma that names a file of facts
abbrev pub is_fact_table : PlainTerms → Bool
is_fact_table (more_terms t (more_terms u no_term)) = is_predicate t && is_string u
is_fact_table _ = false

-- a pragma that isn't one of the three that this profile knows, or that it knows and doesn't have
-- yet
abbrev pub named_pragma : List ℕ → PlainTerms → Option LeftOut
named_pragma w ts =
    if bytes_eq (codes "inline") w || bytes_eq (codes "no_inline") w then None
    else if bytes_eq (codes "fact_table") w then then_some (is_fact_table ts) L.Pragma
    else Some L.Pragma

abbrev pub pragma : PlainTerm → Option LeftOut
pragma (at (App (w ∷ []) ts) l) = named_pragma w ts
pragma (at (App w ts) l) = Some L.Pragma
pragma _ = None

-- the pragma of a declaration
abbrev pub sole_pragma : PlainTerms → Option LeftOut
sole_pragma (more_terms t no_term) = pragma t
sole_pragma _ = None

-- a declaration with constraints of type classes behind it
abbrev pub is_constrained : PlainTerms → Bool
is_constrained (more_terms t (more_terms u no_term)) = declares t
is_constrained _ = false

-- a declaration with type variables in front of it
abbrev pub is_existential : PlainTerms → Bool
is_existential (more_terms t (more_terms u no_term)) = declares u
is_existential _ = false

-- what a declaration, a name over these parts, is left out for
abbrev pub declaration : List ℕ → PlainTerms → Option LeftOut
declaration w ts =
    if bytes_eq (codes "pragma") w then sole_pragma ts
    else if bytes_eq (codes "<=") w then then_some (is_constrained ts) L.TypeClass
    else if bytes_eq (codes "some") w then then_some (is_existential ts) L.ExistentialType
    else then_some (bytes_eq (codes "mutable") w) L.Mutable
