-- A graph that stands for a substitution of its first places.
use Rattle.std.specs.Prelude.{◌≡◌, ℕ, ◌<◌, ◌≤◌, Bool, true, false, List, [], ◌∷◌, map, length}
use Rattle.std.specs.List.{range_with_len}
use Rattle.mc_program.specs.Programs.{TypeTerm, int_type, char_type, string_type, state_type, variable_type, union_type, TypeTerms, no_types, type_then}
use Rattle.mc_program.specs.declared.ty.Ty.{Ty}
use Rattle.mc_program.specs.declared.ty.Ty.TheOpen as T
use Rattle.mc_program.specs.declared.ty.Ty.TheViews.{roll-Ty}
use Rattle.mc_types.specs.Shapes.{Shape, rigid}
use Rattle.mc_types.specs.Holds.{Holds, InOrder}
use Rattle.mc_types.specs.Founded.{Founded, AllPast}
use Rattle.mc_types.specs.Solved.{value}
use Rattle.mc_types.specs.declared.cells.Cell.{Cell}
use Rattle.mc_types.specs.Trees.{shape, placed, type_of}
use Rattle.mc_types.specs.Placed.{Apart}

-- the type of which the data is the view
abbrev mutual
  pub held_type : TypeTerm → Ty
  held_type int_type = roll-Ty T.Int
  held_type char_type = roll-Ty T.Char
  held_type string_type = roll-Ty T.Str
  held_type state_type = roll-Ty T.Io
  held_type (variable_type v) = roll-Ty (T.Var v)
  held_type (union_type u ts) = roll-Ty (T.Union u (held_types ts))

  pub held_types : TypeTerms → List Ty
  held_types no_types = []
  held_types (type_then t ts) = held_type t ∷ held_types ts

-- the type at a place, where each free place is a variable of its own number
abbrev pub general : List Cell → ℕ → TypeTerm
general cells v = type_of (value cells rigid (length cells) v)

-- the types at the first n places
abbrev pub types_of : (n : ℕ) → List Cell → List Ty
types_of n cells = map (λ v. held_type (general cells v)) (range_with_len 0 n)

-- The cells stand for types of the first n places. Where trees hold in them, the types that can be
-- read from those trees hold too.
pub record IsSystem (n : ℕ) (cells : List Cell) : Type 0 where
  pub in_order : InOrder cells
  pub founded : Founded cells
  pub room : n ≤ length cells
  pub apart : Apart n cells
  pub proper :
      (ρ : ℕ → Shape) → Holds ρ cells
      → (ρ' : ℕ → Shape) × Holds ρ' cells × ((v : ℕ) → v < n → ρ' v ≡ shape (type_of (ρ v)))

pub record IsState (n : ℕ) (cells : List Cell) (marks : List ℕ) (round : ℕ) : Type 0 where
  pub system : IsSystem n cells
  pub past : AllPast round marks
  pub some_round : 0 < round

-- what unifying two types says of the cells before and after
pub record TypesUnify (n : ℕ) (before after : List Cell) (a b : TypeTerm) : Type 0 where
  pub in_order : InOrder after
  pub founded : Founded after
  pub longer : length before ≤ length after
  pub apart : Apart n after
  pub keeps : (ρ : ℕ → Shape) → Holds ρ after → Holds ρ before × (placed n ρ a ≡ placed n ρ b)
  pub extends :
      (ρ : ℕ → Shape) → Holds ρ before → placed n ρ a ≡ placed n ρ b
      → (ρ' : ℕ → Shape) × Holds ρ' after × ((i : ℕ) → i < length before → ρ' i ≡ ρ i)

abbrev pub TypesSay : Bool → (n : ℕ) → (before after : List Cell) → (a b : TypeTerm) → Type 0
TypesSay true n before after a b = TypesUnify n before after a b
TypesSay false n before after a b =
    (ρ : ℕ → Shape) → Holds ρ before → placed n ρ a ≡ placed n ρ b → ⊥
