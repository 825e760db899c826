-- The lowest places that places are joined with.
use Rattle.std.specs.Prelude.{◌≡◌, ℕ, ◌<◌, ◌≤◌, List, length, slice_index_or}
use Rattle.mc_types.specs.Shapes.{Shape}
use Rattle.mc_types.specs.Holds.{Holds, IsRoot, cell_at}
use Rattle.mc_types.specs.declared.cells.Cell.{Cell}

-- a place has the type of another, which is no higher and joined with no lower one
pub record HasRoot (cells : List Cell) (at root : ℕ) : Type 0 where
  pub below : root ≤ at
  pub is_root : IsRoot (cell_at cells root)
  pub same : (ρ : ℕ → Shape) → Holds ρ cells → ρ at ≡ ρ root

-- they are those of the first places
pub record AreRoots (cells : List Cell) (count : ℕ) (roots : List ℕ) : Type 0 where
  pub as_many : length roots ≡ count
  pub are : (i d : ℕ) → i < count → HasRoot cells i (slice_index_or roots i d)
