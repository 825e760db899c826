-- Equivalences, and types in which they are replaced by what they stand for (the Mercury manual:
-- Types, equivalence types).
use Rattle.std.specs.Prelude.{ℕ, zero, suc, Bool, length, Option, Some, None, slice_get, if◌then◌else◌}
use Rattle.std.specs.Option.{option_map}
use Rattle.mc_program.specs.Programs.{TypeTerm, union_type, TypeTerms, no_types, type_then}
use Rattle.mc_model.specs.Types.{type_at, instance_of}
use Rattle.mc_decl_syntax.specs.Plain.{PlainDecl, SameType}
use Rattle.mc_names.specs.Linked.{Defined, Linked, defining_module}
use Rattle.mc_type_table.specs.Written.{written_type}
use Rattle.mc_names.specs.Parameters.{parameters_of}

-- what a type stands for that is defined by `==`, over its parameters
abbrev pub equivalent_by : Linked → (own : ℕ) → PlainDecl → Option TypeTerm
equivalent_by l own (SameType h t) = Some (written_type l own (parameters_of h) t)
equivalent_by l own i = None

abbrev pub equivalent_of : Linked → Option Defined → Option TypeTerm
equivalent_of l None = None
equivalent_of l (Some d) = equivalent_by l (defining_module l d) d.item

-- what the type of a number stands for, as its own module writes it
abbrev pub equivalent : Linked → ℕ → Option TypeTerm
equivalent l u = equivalent_of l (slice_get l.types u)

-- those definitions that are in sight; a type whose definition is out of sight is one of its own
abbrev pub in_sight :
    (sight : ℕ → Bool) → (definitions : ℕ → Option TypeTerm) → ℕ → Option TypeTerm
in_sight sight D u = if sight u then D u else None

abbrev pub defined_as : (u : ℕ) → TypeTerms → Option TypeTerm → TypeTerm
defined_as u ts None = union_type u ts
defined_as u ts (Some body) = instance_of (type_at ts) body

-- a type, with the body of its definition for each type that has one, its arguments too
abbrev mutual
  pub replaced : (definitions : ℕ → Option TypeTerm) → TypeTerm → TypeTerm
  replaced D (union_type u ts) = defined_as u (all_replaced D ts) (D u)
  replaced D t = t

  pub all_replaced : (definitions : ℕ → Option TypeTerm) → TypeTerms → TypeTerms
  all_replaced D no_types = no_types
  all_replaced D (type_then t ts) = type_then (replaced D t) (all_replaced D ts)

-- the definitions with their bodies replaced so many times, one inside another
abbrev pub after_rounds :
    (rounds : ℕ) → (definitions : ℕ → Option TypeTerm) → ℕ → Option TypeTerm
after_rounds zero D u = None
after_rounds (suc n) D u = option_map (replaced (after_rounds n D)) (D u)

-- A type without equivalences: each is replaced by what it stands for, as often as there are types,
-- so none is left where none goes round.
abbrev pub expanded : Linked → (definitions : ℕ → Option TypeTerm) → TypeTerm → TypeTerm
expanded l D t = replaced (after_rounds (length l.types) D) t
