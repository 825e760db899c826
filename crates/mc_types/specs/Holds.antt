-- What the cells of a graph say of the types at its places: each cell is an equation, and the graph
-- stands for all types that make the equations true. (Robinson, A Machine-Oriented Logic Based on
-- the Resolution Principle: unification; as equations between places in Huet's form of it.)
use Rattle.std.specs.Prelude.{◌≡◌, ℕ, ◌<◌, Bool, true, false, List, length, slice_index_or, ◌↔◌}
use Rattle.mc_types.specs.Shapes.{Shape, named, rigid, app}
use Rattle.mc_types.specs.declared.cells.Cell.{Cell}
use Rattle.mc_types.specs.declared.cells.Cell.TheVariants.{Free, Same, Named, Rigid, App}

-- a place without a cell is free
abbrev pub cell_at : List Cell → ℕ → Cell
cell_at cells i = slice_index_or cells i Free

-- the cell at a place is true, where ρ gives each place its type
abbrev pub CellHolds : (ρ : ℕ → Shape) → ℕ → Cell → Type 0
CellHolds ρ i Free = Unit {0}
CellHolds ρ i (Same j) = ρ i ≡ ρ j
CellHolds ρ i (Named n) = ρ i ≡ named n
CellHolds ρ i (Rigid n) = ρ i ≡ rigid n
CellHolds ρ i (App f x) = ρ i ≡ app (ρ f) (ρ x)

-- all cells are true
abbrev pub Holds : (ρ : ℕ → Shape) → List Cell → Type 0
Holds ρ cells = (i : ℕ) → CellHolds ρ i (cell_at cells i)

-- the cell at place i of n names places that are there, and a join leads to a lower one
abbrev pub CellInOrder : (n i : ℕ) → Cell → Type 0
CellInOrder n i (Same j) = j < i
CellInOrder n i (App f x) = (f < n) × (x < n)
CellInOrder n i _ = Unit {0}

abbrev pub InOrder : List Cell → Type 0
InOrder cells = (i : ℕ) → CellInOrder (length cells) i (cell_at cells i)

-- the place is joined with no lower one
abbrev pub IsRoot : Cell → Type 0
IsRoot (Same j) = ⊥
IsRoot _ = Unit {0}

-- What a unification answers: yes, and then the types that the graph stands for are those before
-- that are equal at the two places; or no, and none are.
abbrev pub Unified : Bool → (before after : List Cell) → (left right : ℕ) → Type 0
Unified true before after left right =
    (ρ : ℕ → Shape) → Holds ρ after ↔ (Holds ρ before × (ρ left ≡ ρ right))
Unified false before after left right =
    (ρ : ℕ → Shape) → Holds ρ before → ρ left ≡ ρ right → ⊥

-- Types that hold in these cells can be carried over to types that hold in the others, without a
-- change at the places of these.
abbrev pub Extends : (before after : List Cell) → Type 0
Extends before after =
    (ρ : ℕ → Shape) → Holds ρ before
    → (ρ' : ℕ → Shape) × Holds ρ' after × ((i : ℕ) → i < length before → ρ' i ≡ ρ i)
