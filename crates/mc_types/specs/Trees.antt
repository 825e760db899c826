-- Types as trees of two parts, and back: a union type is its name applied to its arguments one by
-- one. (Mercury Language Reference Manual: Types.)
use Rattle.std.specs.Prelude.{ℕ, nat_lt, if◌then◌else◌}
use Rattle.mc_program.specs.Programs.{TypeTerm, int_type, char_type, string_type, state_type, variable_type, union_type, TypeTerms, no_types, type_then}
use Rattle.mc_types.specs.Shapes.{Shape, named, rigid, app}
use Rattle.mc_types.specs.declared.cells.TypeName.{TypeName}
use Rattle.mc_types.specs.declared.cells.TypeName.TheVariants as N

-- the tree of a type, with trees for its variables
abbrev mutual
  pub shaped : (ℕ → Shape) → TypeTerm → Shape
  shaped σ int_type = named N.Int
  shaped σ char_type = named N.Char
  shaped σ string_type = named N.Str
  shaped σ state_type = named N.Io
  shaped σ (variable_type v) = σ v
  shaped σ (union_type u ts) = shaped_onto σ (named (N.Union u)) ts

  pub shaped_onto : (ℕ → Shape) → Shape → TypeTerms → Shape
  shaped_onto σ f no_types = f
  shaped_onto σ f (type_then t ts) = shaped_onto σ (app f (shaped σ t)) ts

abbrev pub shape : TypeTerm → Shape
shape t = shaped rigid t

-- the tree of a type, with trees for its variables below n; any other variable is rigid
abbrev pub chosen : (n : ℕ) → (ℕ → Shape) → ℕ → Shape
chosen n σ v = if nat_lt v n then σ v else rigid v

abbrev pub placed : (n : ℕ) → (ℕ → Shape) → TypeTerm → Shape
placed n σ t = shaped (chosen n σ) t

-- a type with one argument more
abbrev pub with_argument : TypeTerm → TypeTerms → TypeTerms
with_argument x no_types = type_then x no_types
with_argument x (type_then t ts) = type_then t (with_argument x ts)

abbrev pub applied : TypeTerm → TypeTerm → TypeTerm
applied (union_type u ts) x = union_type u (with_argument x ts)
applied t x = t

-- the type of a name without arguments
abbrev pub of_name : TypeName → TypeTerm
of_name N.Int = int_type
of_name N.Char = char_type
of_name N.Str = string_type
of_name N.Io = state_type
of_name (N.Union u) = union_type u no_types

-- the type of a tree
abbrev pub type_of : Shape → TypeTerm
type_of (named n) = of_name n
type_of (rigid v) = variable_type v
type_of (app f x) = applied (type_of f) (type_of x)
