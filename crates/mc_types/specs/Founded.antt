-- Which graphs stand for finite types: those in which no type has itself in it. (Robinson: the
-- occurs check.)
use Rattle.std.specs.Prelude.{◌≡◌, ℕ, ◌<◌, ◌*◌, Bool, true, false, List, length, slice_index_or, ◌⊎◌}
use Rattle.mc_types.specs.Shapes.{Shape}
use Rattle.mc_types.specs.Holds.{cell_at, Holds}
use Rattle.mc_types.specs.Changes.{Grown}
use Rattle.mc_types.specs.declared.cells.Cell.{Cell}
use Rattle.mc_types.specs.declared.cells.Cell.TheVariants.{Same, App}
use Rattle.mc_types.specs.declared.cells.Change.{Change}

-- the places that a cell names
abbrev pub IsPart : Cell → ℕ → Type 0
IsPart (Same j) p = p ≡ j
IsPart (App f x) p = (p ≡ f) ⊎ (p ≡ x)
IsPart _ p = ⊥

-- the places can be ranked so that each cell names lower ones alone
pub record Founded (cells : List Cell) : Type 0 where
  pub rank : ℕ → ℕ
  pub falls : (i p : ℕ) → IsPart (cell_at cells i) p → rank p < rank i

-- What a check of the cells from a place on, and of the changes from a number on, answers: yes,
-- and then no type has itself in it where none had before these; or no, and no types hold.
abbrev pub FoundedSays : Bool → List Cell → List Change → (cells changes : ℕ) → Type 0
FoundedSays true cells changes m n =
    (old : List Cell) (old_changes : List Change) → length old ≡ m → length old_changes ≡ n
    → Grown old old_changes cells changes → Founded old → Founded cells
FoundedSays false cells changes m n = (ρ : ℕ → Shape) → Holds ρ cells → ⊥

-- the mark of a place; 0 where it has none
abbrev pub mark_at : List ℕ → ℕ → ℕ
mark_at marks i = slice_index_or marks i 0

-- all marks are of rounds before a round, so that none counts in it
abbrev pub AllPast : (round : ℕ) → List ℕ → Type 0
AllPast round marks = (i : ℕ) → mark_at marks i < 2 * round
