-- The marks of a check for types that have themselves in them. In a round, a mark of twice its
-- number says that a place is on the path, the next number that it is done.
use Rattle.std.specs.Prelude.{◌≡◌, ℕ, ◌<◌, ◌≤◌, ◌+◌, ◌*◌, Bool, true, false, List, length, ◌⊎◌}
use Rattle.mc_types.specs.Shapes.{Shape}
use Rattle.mc_types.specs.Holds.{cell_at, Holds}
use Rattle.mc_types.specs.Founded.{IsPart, mark_at}
use Rattle.mc_types.specs.declared.cells.Cell.{Cell}

abbrev pub IsDone : (round : ℕ) → List ℕ → ℕ → Type 0
IsDone round marks i = mark_at marks i ≡ 2 * round + 1

abbrev pub IsOnPath : (round : ℕ) → List ℕ → ℕ → Type 0
IsOnPath round marks i = mark_at marks i ≡ 2 * round

-- the places that are done name such places alone, and can be ranked
pub record Ranked (round : ℕ) (cells : List Cell) (marks : List ℕ) : Type 0 where
  pub rank : ℕ → ℕ
  pub top : ℕ
  pub below : (i : ℕ) → IsDone round marks i → rank i < top
  pub falls : (i p : ℕ) → IsDone round marks i → IsPart (cell_at cells i) p → IsDone round marks p × (rank p < rank i)

-- a round in which no place is on the path
pub record Calm (round : ℕ) (cells : List Cell) (marks : List ℕ) : Type 0 where
  pub long : length cells ≤ length marks
  pub ranked : Ranked round cells marks
  pub past : (i : ℕ) → mark_at marks i < 2 * round ⊎ IsDone round marks i

-- what a visit of a place says of the marks before and after
abbrev pub Visited :
    Bool → (round : ℕ) → List Cell → (before after : List ℕ) → (start : ℕ) → Type 0
Visited true round cells before after start = Calm round cells after × IsDone round after start × ((i : ℕ) → IsDone round before i → IsDone round after i)
Visited false round cells before after start = (ρ : ℕ → Shape) → Holds ρ cells → ⊥
