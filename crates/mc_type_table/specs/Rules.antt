-- The rules that definitions of types break (the Mercury manual: Types; this project's rules and
-- texts; regular types are this project's profile).
use Rattle.std.specs.Prelude.{ℕ, ◌+◌, Bool, true, false, not, ◌&&◌, ◌||◌, List, [], ◌∷◌, ◌++◌, map, length, Option, Some, None, codes, slice_get, if◌then◌else◌}
use Rattle.std.specs.Option.{option_or, option_map}
use Rattle.std.specs.Str.{bytes_eq}
use Rattle.std.specs.Set.{is_member}
use Rattle.mc_term_data.specs.Plain.{PlainTerm, PlainTerms, at, no_term, more_terms, Var, App, Tailed}
use Rattle.mc_term_data.specs.Shapes.{operands}
use Rattle.mc_source.specs.declared.rule.Broken.{Broken}
use Rattle.mc_source.specs.declared.rule.Rule.TheVariants as R
use Rattle.mc_source.specs.Rules.{Fault, first_rules}
use Rattle.mc_program.specs.Programs.{TypeTerm, variable_type, union_type, TypeTerms, no_types, type_then}
use Rattle.mc_decl_syntax.specs.Plain.{PlainDecl, UnionType, SameType}
use Rattle.mc_decl_syntax.specs.Terms.{names_in}
use Rattle.mc_names.specs.Plain.{id, shown}
use Rattle.mc_names.specs.Linked.{Defined, Linked, defining_module}
use Rattle.mc_type_table.specs.Written.{written_type}
use Rattle.mc_names.specs.Parameters.{parameters_of}
use Rattle.mc_type_table.specs.Expanded.{equivalent, in_sight, expanded}
use Rattle.mc_components.specs.Reached.{reaches}

-- the type of a constructor's argument, which may have a name
abbrev pub field_by : PlainTerm → Option (PlainTerm × PlainTerm) → PlainTerm
field_by t None = t
field_by t (Some p) = p.1

abbrev pub field : PlainTerm → PlainTerm
field t = field_by t (operands (codes "::") t)

abbrev pub fields : PlainTerms → List PlainTerm
fields no_term = []
fields (more_terms t ts) = field t ∷ fields ts

-- the types of a constructor's arguments
abbrev pub constructor_fields : PlainTerm → List PlainTerm
constructor_fields (at (App w ts) line) = fields ts
constructor_fields (at (Tailed ts t) line) = fields ts ++ field t ∷ []
constructor_fields _ = []

abbrev pub union_fields : PlainTerms → List PlainTerm
union_fields no_term = []
union_fields (more_terms t ts) = constructor_fields t ++ union_fields ts

-- TYPE VARIABLES

-- the first variable of a type that is none of these
abbrev mutual
  pub stray : (parameters : List (List ℕ)) → PlainTerm → Option (List ℕ)
  stray ps (at (Var x) line) = if is_member bytes_eq ps x then None else Some x
  stray ps (at (App w ts) line) = first_stray ps ts
  stray ps _ = None

  pub first_stray : (parameters : List (List ℕ)) → PlainTerms → Option (List ℕ)
  first_stray ps no_term = None
  first_stray ps (more_terms t ts) = option_or (stray ps t) (first_stray ps ts)

abbrev pub first_of : (parameters : List (List ℕ)) → List PlainTerm → Option (List ℕ)
first_of ps [] = None
first_of ps (t ∷ ts) = option_or (stray ps t) (first_of ps ts)

-- the names of a type's parameters; a `_` has none
abbrev pub named_parameters : PlainTerm → List (List ℕ)
named_parameters (at (App w ts) line) = names_in ts
named_parameters _ = []

-- the first variable in the body of a type that isn't one of its parameters
abbrev pub stray_in : PlainDecl → Option (List ℕ)
stray_in (UnionType h ts) = first_of (named_parameters h) (union_fields ts)
stray_in (SameType h t) = stray (named_parameters h) t
stray_in i = None

abbrev pub variable_fault : PlainDecl → Option Fault
variable_fault i =
    option_map (λ x. (R.T3, codes "type variable " ++ (x ++ codes " is not in the head")))
    (stray_in i)

-- EQUIVALENCES THAT GO ROUND

-- the types that stand in a type, by their numbers
abbrev mutual
  pub types_in : TypeTerm → List ℕ
  types_in (union_type u ts) = u ∷ all_types_in ts
  types_in t = []

  pub all_types_in : TypeTerms → List ℕ
  all_types_in no_types = []
  all_types_in (type_then t ts) = types_in t ++ all_types_in ts

abbrev pub types_in_body : Option TypeTerm → List ℕ
types_in_body None = []
types_in_body (Some t) = types_in t

-- Whether an equivalence reaches itself by equivalences, whoever sees their definitions: their
-- bodies, arguments too.
abbrev pub is_cyclic : Linked → ℕ → Bool
is_cyclic l u = reaches (λ k. types_in_body (equivalent l k)) (length l.types) u u

abbrev pub of_type : Defined → List ℕ → List ℕ
of_type d words = codes "type " ++ (shown (id d.name.name d.name.arity) ++ words)

abbrev pub cycle_fault : Linked → ℕ → Defined → Option Fault
cycle_fault l u d =
    if is_cyclic l u then Some (R.T4, of_type d (codes " is its own equivalent")) else None

-- REGULAR TYPES

-- The equivalences of a program, whoever sees their definitions. One that goes round stands for
-- itself.
abbrev pub definitions : Linked → ℕ → Option TypeTerm
definitions l u = in_sight (λ k. not (is_cyclic l k)) (equivalent l) u

-- the types that the body of a union writes, without equivalences
abbrev pub body_by : Linked → (own : ℕ) → PlainDecl → List TypeTerm
body_by l own (UnionType h ts) =
    map (λ t. expanded l (definitions l) (written_type l own (parameters_of h) t)) (union_fields ts)
body_by l own i = []

abbrev pub body_of : Linked → Option Defined → List TypeTerm
body_of l None = []
body_of l (Some d) = body_by l (defining_module l d) d.item

abbrev pub body : Linked → ℕ → List TypeTerm
body l u = body_of l (slice_get l.types u)

abbrev pub types_in_all : List TypeTerm → List ℕ
types_in_all [] = []
types_in_all (t ∷ ts) = types_in t ++ types_in_all ts

-- Whether two types are in one group, of which the first stands in the body of the second: each
-- reaches the other by what stands in bodies.
abbrev pub is_of_group : Linked → (inner outer : ℕ) → Bool
is_of_group l inner outer =
    reaches (λ k. types_in_all (body l k)) (length l.types) inner outer

-- a type without variables
abbrev mutual
  pub is_closed : TypeTerm → Bool
  is_closed (variable_type v) = false
  is_closed (union_type u ts) = are_closed ts
  is_closed t = true

  pub are_closed : TypeTerms → Bool
  are_closed no_types = true
  are_closed (type_then t ts) = is_closed t && are_closed ts

abbrev pub is_variable : TypeTerm → Bool
is_variable (variable_type v) = true
is_variable t = false

-- each is a type variable or a type without variables
abbrev pub are_plain : TypeTerms → Bool
are_plain no_types = true
are_plain (type_then t ts) = (is_variable t || is_closed t) && are_plain ts

-- whether a type of a group stands in a type over other arguments than the group allows
abbrev mutual
  pub is_irregular : (group : ℕ → Bool) → TypeTerm → Bool
  is_irregular group (union_type u ts) =
      (group u && not (are_plain ts)) || is_any_irregular group ts
  is_irregular group t = false

  pub is_any_irregular : (group : ℕ → Bool) → TypeTerms → Bool
  is_any_irregular group no_types = false
  is_any_irregular group (type_then t ts) = is_irregular group t || is_any_irregular group ts

abbrev pub is_one_irregular : (group : ℕ → Bool) → List TypeTerm → Bool
is_one_irregular group [] = false
is_one_irregular group (t ∷ ts) = is_irregular group t || is_one_irregular group ts

-- In the body of a union each type of its group has as arguments type variables and types without
-- variables alone.
abbrev pub regular_fault : Linked → ℕ → Defined → Option Fault
regular_fault l u d =
    if is_one_irregular (λ k. is_of_group l k u) (body l u)
    then Some (R.T5, of_type d (codes " is not regular")) else None

-- THE LIST

-- the first rule that the type of a number breaks
abbrev pub type_fault : Linked → ℕ → Defined → Option Fault
type_fault l u d =
    option_or (variable_fault d.item) (option_or (cycle_fault l u d) (regular_fault l u d))

-- the types of a program, each with its number
abbrev pub numbered : (first : ℕ) → List Defined → List (ℕ × Defined)
numbered n [] = []
numbered n (d ∷ ds) = (n, d) ∷ numbered (n + 1) ds

-- The rules that the types of a program break: the first of each faulty one, in the order of the
-- files and their items.
abbrev pub type_faults : Linked → List Broken
type_faults l =
    first_rules (λ p. p.1.at) (λ p. type_fault l p.0 p.1) (numbered 0 l.types)
