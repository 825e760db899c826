-- What a written type means in a module, where equivalences still stand by their names (the Mercury
-- manual: Types; The module system).
use Rattle.std.specs.Prelude.{ℕ, Bool, false, ◌&&◌, nat_eq, List, [], ◌∷◌, length, Option, Some, None, codes, slice_get, if◌then◌else◌}
use Rattle.std.specs.Str.{bytes_eq}
use Rattle.mc_term_data.specs.Plain.{PlainTerm, PlainTerms, at, no_term, more_terms, Var, App}
use Rattle.mc_term_data.specs.Names.{count, Row, row, found}
use Rattle.mc_term_data.specs.Shapes.{variable}
use Rattle.mc_source.specs.declared.name.Name.{Name}
use Rattle.mc_program.specs.Programs.{TypeTerm, int_type, char_type, string_type, state_type, variable_type, union_type, TypeTerms, no_types, type_then}
use Rattle.mc_decl_syntax.specs.Plain.{Path}
use Rattle.mc_names.specs.Plain.{id, qualifiers, last_part}
use Rattle.mc_names.specs.Linked.{Defined, Linked}
use Rattle.mc_names.specs.Candidates.{type_candidates}
use Rattle.mc_names.specs.Parameters.{place_of}

-- the builtin types
unfoldable pub builtin_rows : List (Row TypeTerm)
builtin_rows =
    row (codes "int") 0 int_type
    ∷ row (codes "char") 0 char_type
    ∷ row (codes "string") 0 string_type
    ∷ []

-- the builtin type that a name over so many arguments means, without qualifiers
abbrev pub builtin : Path → (arity : ℕ) → Option TypeTerm
builtin (w ∷ []) n = found builtin_rows w n
builtin _ n = None

-- the library's type `io.state`, which has no constructors
abbrev pub is_state : Name → Bool
is_state n =
    bytes_eq n.«module» (codes "io") && (bytes_eq n.name (codes "state") && nat_eq n.arity 0)

abbrev pub is_state_type : Option Defined → Bool
is_state_type None = false
is_state_type (Some d) = is_state d.name

-- The first of these types over arguments. Where there is none, which linking refuses, it is a
-- number that no type has.
abbrev pub first_meaning : Linked → TypeTerms → List ℕ → TypeTerm
first_meaning l ts [] = union_type (length l.types) ts
first_meaning l ts (u ∷ us) =
    if is_state_type (slice_get l.types u) then state_type else union_type u ts

abbrev pub builtin_or_first : Option TypeTerm → Linked → TypeTerms → List ℕ → TypeTerm
builtin_or_first (Some t) l ts us = t
builtin_or_first None l ts us = first_meaning l ts us

-- a type's name over so many arguments, in the module of a number
abbrev pub named_type : Linked → (own : ℕ) → Path → (arity : ℕ) → TypeTerms → TypeTerm
named_type l own w n ts =
    builtin_or_first (builtin w n) l ts (type_candidates l own (qualifiers w) (id (last_part w) n))

-- The type that a term writes in the module of a number: a variable by its place among these names,
-- a name by what it means there. (A term of another form is no type: the items' form refuses it.)
abbrev mutual
  pub written_type : Linked → (own : ℕ) → (variables : List (List ℕ)) → PlainTerm → TypeTerm
  written_type l own vs (at (Var x) line) = variable_type (place_of x vs)
  written_type l own vs (at (App w ts) line) =
      named_type l own w (count ts) (written_types l own vs ts)
  written_type l own vs _ = union_type (length l.types) no_types

  pub written_types : Linked → (own : ℕ) → (variables : List (List ℕ)) → PlainTerms → TypeTerms
  written_types l own vs no_term = no_types
  written_types l own vs (more_terms t ts) =
      type_then (written_type l own vs t) (written_types l own vs ts)
