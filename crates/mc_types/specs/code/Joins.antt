-- What one turn of a unification says of the cells, and how much there is left to join.
use Rattle.std.specs.Prelude.{◌≡◌, ℕ, ◌<◌, ◌≤◌, ◌+◌, List, length, ◌↔◌}
use Rattle.std.specs.List.{sum_by}
use Rattle.mc_types.specs.Shapes.{Shape}
use Rattle.mc_types.specs.Holds.{Holds}
use Rattle.mc_types.specs.declared.cells.Cell.{Cell}
use Rattle.mc_types.specs.declared.cells.Cell.TheVariants.{Same, App}
use Rattle.mc_types.specs.declared.joins.Pair.{Pair}
use Rattle.mc_types.specs.declared.joins.Joined.{Joined}
use Rattle.mc_types.specs.declared.joins.Joined.TheVariants.{Done, Parts, Clash}

-- a cell that is no join counts one, and one more for each part
abbrev pub cell_weight : Cell → ℕ
cell_weight (Same j) = 0
cell_weight (App f x) = 3
cell_weight _ = 1

abbrev pub weight : List Cell → ℕ
weight cells = sum_by cell_weight cells

abbrev pub PairHolds : (ρ : ℕ → Shape) → Pair → Type 0
PairHolds ρ p = ρ p.left ≡ ρ p.right

abbrev pub PairWithin : ℕ → Pair → Type 0
PairWithin n p = (p.left < n) × (p.right < n)

-- what joining two roots says of the cells before and after
abbrev pub JoinSays : Joined → (before after : List Cell) → (low high : ℕ) → Type 0
JoinSays Done before after low high = ((ρ : ℕ → Shape) → Holds ρ after ↔ (Holds ρ before × (ρ low ≡ ρ high))) × (weight after + 1 ≤ weight before)
JoinSays (Parts p q) before after low high = ((ρ : ℕ → Shape) → (Holds ρ after × PairHolds ρ p × PairHolds ρ q) ↔ (Holds ρ before × (ρ low ≡ ρ high))) × (weight after + 3 ≤ weight before) × PairWithin (length before) p × PairWithin (length before) q
JoinSays Clash before after low high = (ρ : ℕ → Shape) → Holds ρ before → ρ low ≡ ρ high → ⊥
