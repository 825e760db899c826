-- The types that a graph stands for: one for each choice of its free cells, so that it is the most
-- general answer to its equations. (Robinson: the most general unifier.)
use Rattle.std.specs.Prelude.{◌≡◌, ℕ, zero, suc, List}
use Rattle.mc_types.specs.Shapes.{Shape, named, rigid, app}
use Rattle.mc_types.specs.Holds.{Holds, cell_at}
use Rattle.mc_types.specs.Founded.{Founded}
use Rattle.mc_types.specs.declared.cells.Cell.{Cell}
use Rattle.mc_types.specs.declared.cells.Cell.TheVariants.{Free, Same, Named, Rigid, App}

-- the type of a cell, by those of its parts and that of a free cell
abbrev pub value_of : (ℕ → Shape) → Shape → Cell → Shape
value_of below free Free = free
value_of below free (Same j) = below j
value_of below free (Named n) = named n
value_of below free (Rigid n) = rigid n
value_of below free (App f x) = app (below f) (below x)

-- the type at a place, to a depth
abbrev pub value : List Cell → (σ : ℕ → Shape) → (depth : ℕ) → ℕ → Shape
value cells σ zero i = σ i
value cells σ (suc n) i = value_of (value cells σ n) (σ i) (cell_at cells i)

-- there are types that hold in the cells and are these at its free cells, and no others do
pub record Solved (cells : List Cell) (σ : ℕ → Shape) : Type 0 where
  pub types : ℕ → Shape
  pub holds : Holds types cells
  pub free : (i : ℕ) → cell_at cells i ≡ Free → types i ≡ σ i
  pub only :
      (ρ : ℕ → Shape) → Holds ρ cells → ((j : ℕ) → cell_at cells j ≡ Free → ρ j ≡ σ j) → (i : ℕ)
      → ρ i ≡ types i

-- a founded graph has one solution for each choice of its free cells: it is most general
abbrev pub FoundedIsSolved : Type 0
FoundedIsSolved = (cells : List Cell) → Founded cells → (σ : ℕ → Shape) → Solved cells σ
