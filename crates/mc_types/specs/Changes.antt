-- Changes of cells, and how they are taken back. (This project's profile: the trail of Warren's
-- abstract machine, for types.)
use Rattle.std.specs.Prelude.{◌≡◌, ℕ, ◌≤◌, List, [], ◌∷◌, ◌++◌, length, take, slice_set}
use Rattle.mc_types.specs.Holds.{cell_at}
use Rattle.mc_types.specs.declared.cells.Cell.{Cell}
use Rattle.mc_types.specs.declared.cells.Cell.TheVariants.{Free, Rigid}
use Rattle.mc_types.specs.declared.cells.Change.{Change}

-- the cells as they were before the changes, the last of which is taken back first
abbrev pub undone : List Change → List Cell → List Cell
undone [] cells = cells
undone (c ∷ later) cells = slice_set (undone later cells) c.at c.was

-- cells and changes that came of others by changes that are all noted, and by new cells
pub record Grown
    (cells : List Cell) (changes : List Change) (cells' : List Cell) (changes' : List Change)
    : Type 0 where
  pub since : List Change
  pub noted : changes' ≡ changes ++ since
  pub back : undone since (take (length cells) cells') ≡ cells
  pub longer : length cells ≤ length cells'

-- no place became free, and no rigid variable came in
pub record NothingNew (before after : List Cell) : Type 0 where
  pub free : (i : ℕ) → cell_at after i ≡ Free → cell_at before i ≡ Free
  pub rigid : (i n : ℕ) → cell_at after i ≡ Rigid n → (j : ℕ) × (cell_at before j ≡ Rigid n)
