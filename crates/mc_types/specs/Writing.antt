-- Types that are written out, over the free places of a graph. (This project's profile.)
use Rattle.std.specs.Prelude.{◌≡◌, ℕ, ◌<◌, List, length, slice_index_or}
use Rattle.mc_types.specs.Shapes.{Shape, named, rigid, app}
use Rattle.mc_types.specs.Holds.{Holds, cell_at}
use Rattle.mc_types.specs.declared.cells.Cell.{Cell}
use Rattle.mc_types.specs.declared.cells.Cell.TheVariants.{Free}
use Rattle.mc_types.specs.declared.written_types.Written.{Written, Free as OfFree, Rigid as OfRigid, Named as OfNamed, App' as OfApp}

-- the type, with types for the free places
abbrev pub written : (ℕ → Shape) → Written → Shape
written σ (OfFree k) = σ k
written σ (OfRigid k) = rigid k
written σ (OfNamed n) = named n
written σ (OfApp p f q x) = app (written σ f) (written σ x)

-- it is the type at a place, and only the free places count
pub record StandsAt (cells : List Cell) (at : ℕ) (w : Written) : Type 0 where
  pub same : (ρ : ℕ → Shape) → Holds ρ cells → written ρ w ≡ ρ at
  pub free :
      (σ τ : ℕ → Shape)
      → ((j : ℕ) → cell_at cells j ≡ Free → σ j ≡ τ j) → written σ w ≡ written τ w

-- they are the types at the first places
pub record AllStand (cells : List Cell) (count : ℕ) (ws : List Written) : Type 0 where
  pub as_many : length ws ≡ count
  pub stand : (i : ℕ) (d : Written) → i < count → StandsAt cells i (slice_index_or ws i d)
