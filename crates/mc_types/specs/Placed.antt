-- Types in a graph: what adding one says of it, and what writing one out does. (This project's
-- profile: a graph's first places are the types' variables.)
use Rattle.std.specs.Prelude.{◌≡◌, ℕ, ◌<◌, ◌≤◌, ◌+◌, List, length}
use Rattle.mc_program.specs.Programs.{TypeTerm}
use Rattle.mc_types.specs.Shapes.{Shape, rigid}
use Rattle.mc_types.specs.Holds.{Holds, Extends, cell_at}
use Rattle.mc_types.specs.declared.cells.Cell.{Cell}
use Rattle.mc_types.specs.declared.cells.Cell.TheVariants.{Free, Rigid}
use Rattle.mc_types.specs.Trees.{placed, type_of}

-- after a type was added, a place has it, with the types at the places from a base on for its
-- variables below a count; nothing else is said that wasn't before
pub record TypeAdded
    (before after : List Cell) (base count : ℕ) (t : TypeTerm) (node : ℕ)
    : Type 0 where
  pub keeps : (ρ : ℕ → Shape) → Holds ρ after → Holds ρ before
  pub means : (ρ : ℕ → Shape) → Holds ρ after → ρ node ≡ placed count (λ k. ρ (base + k)) t
  pub extends : Extends before after

-- the first n places alone are free, and rigid variables have other numbers
pub record Apart (n : ℕ) (cells : List Cell) : Type 0 where
  pub free : (i : ℕ) → i < length cells → cell_at cells i ≡ Free → i < n
  pub rigid : (i k : ℕ) → cell_at cells i ≡ Rigid k → n ≤ k

-- the types that hold in the cells, where each free place is a variable of its own number
pub record AreGeneral (cells : List Cell) (ρ : ℕ → Shape) : Type 0 where
  pub holds : Holds ρ cells
  pub free : (i : ℕ) → cell_at cells i ≡ Free → ρ i ≡ rigid i

-- it is the type at a place
abbrev pub IsTypeAt : List Cell → ℕ → TypeTerm → Type 0
IsTypeAt cells at made = (ρ : ℕ → Shape) → AreGeneral cells ρ → made ≡ type_of (ρ at)

-- it is a type with the types at the first n places for its variables below n
abbrev pub IsTypeOf : (n : ℕ) → List Cell → (t made : TypeTerm) → Type 0
IsTypeOf n cells t made =
    (ρ : ℕ → Shape) → AreGeneral cells ρ → made ≡ type_of (placed n ρ t)
