-- The forms of types and of type definitions (the Mercury manual: Types).
use Rattle.std.specs.Prelude.{Bool, true, false, ◌&&◌, Option, Some, None, codes, if◌then◌else◌}
use Rattle.std.specs.Option.{is_some}
use Rattle.mc_term_data.specs.Plain.{PlainTerm, PlainTerms, at, no_term, more_terms, Var, App, Items, Tailed}
use Rattle.mc_decl_syntax.specs.Plain.{PlainDecl, AbstractType, UnionType, SameType}
use Rattle.mc_term_data.specs.Shapes.{is_word, has_none, has_one, operands}
use Rattle.mc_decl_syntax.specs.Terms.{alternatives, parameters}

abbrev mutual
  -- a type: a variable, or a name over types
  pub is_type : PlainTerm → Bool
  is_type (at (Var x) l) = true
  is_type (at (App w ts) l) = are_types ts
  is_type _ = false

  pub are_types : PlainTerms → Bool
  are_types no_term = true
  are_types (more_terms t ts) = is_type t && are_types ts

-- a name without qualifiers and arguments
abbrev pub is_field_name : PlainTerm → Bool
is_field_name (at (App w ts) l) = is_word w && has_none ts
is_field_name _ = false

abbrev pub field_of : PlainTerm → Option (PlainTerm × PlainTerm) → Bool
field_of t None = is_type t
field_of t (Some p) = is_field_name p.0 && is_type p.1

-- an argument of a constructor: a type, with the name of a field or without
abbrev pub is_field : PlainTerm → Bool
is_field t = field_of t (operands (codes "::") t)

abbrev pub are_fields : PlainTerms → Bool
are_fields no_term = true
are_fields (more_terms t ts) = is_field t && are_fields ts

-- a constructor: a name without qualifiers over its arguments, `[]`, or `[T | U]`
abbrev pub is_constructor : PlainTerm → Bool
is_constructor (at (App w ts) l) = is_word w && are_fields ts
is_constructor (at (Items ts) l) = has_none ts
is_constructor (at (Tailed ts u) l) = has_one ts && are_fields ts && is_field u
is_constructor _ = false

abbrev pub are_constructors : PlainTerms → Bool
are_constructors no_term = true
are_constructors (more_terms t ts) = is_constructor t && are_constructors ts

abbrev pub union_type : PlainTerm × PlainTerm → Option PlainDecl
union_type p =
    if is_some (parameters p.0) && are_constructors (alternatives p.1)
    then Some (UnionType p.0 (alternatives p.1))
    else None

abbrev pub same_type : PlainTerm × PlainTerm → Option PlainDecl
same_type p = if is_some (parameters p.0) && is_type p.1 then Some (SameType p.0 p.1) else None

abbrev pub abstract_type : PlainTerm → Option PlainDecl
abstract_type t = if is_some (parameters t) then Some (AbstractType t) else None

abbrev pub same_or_abstract : PlainTerm → Option (PlainTerm × PlainTerm) → Option PlainDecl
same_or_abstract t (Some p) = same_type p
same_or_abstract t None = abstract_type t

abbrev pub union_or : PlainTerm → Option (PlainTerm × PlainTerm) → Option PlainDecl
union_or t (Some p) = union_type p
union_or t None = same_or_abstract t (operands (codes "==") t)

-- what stands behind the word `type`
abbrev pub type_item : PlainTerm → Option PlainDecl
type_item t = union_or t (operands (codes "--->") t)
