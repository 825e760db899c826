-- When the types at places are those of a candidate. (Mercury Language Reference Manual: Types.)
use Rattle.std.specs.Prelude.{◌≡◌, ℕ, ◌<◌, Bool, true, false, List, length, map}
use Rattle.mc_program.specs.PlainPrograms.{plain_type}
use Rattle.mc_program.specs.declared.ty.Ty.{Ty}
use Rattle.mc_types.specs.Shapes.{Shape}
use Rattle.mc_types.specs.Holds.{Holds}
use Rattle.mc_types.specs.declared.cells.Cell.{Cell}
use Rattle.mc_types.specs.Trees.{placed}
use Rattle.mc_types.specs.declared.signature.Signature.{Signature}

-- the tree of a type, with trees for its variables below n; any other variable is a rigid one
abbrev pub instance : (n : ℕ) → (ℕ → Shape) → Ty → Shape
instance n σ ty = placed n σ (plain_type ty)

-- the types of places are those of a candidate, with types for its own variables
abbrev pub Fits : (ℕ → Shape) → Signature → List ℕ → Type 0
Fits θ signature places =
    (σ : ℕ → Shape)
    × (map (instance signature.vars σ) signature.types.items ≡ map θ places)

-- What fitting the types of places to a candidate answers of the cells before and after: the types
-- that hold afterwards are those that held and fit, or none fit.
pub record FitHolds
    (before after : List Cell) (signature : Signature) (places : List ℕ)
    : Type 0 where
  pub keeps : (ρ : ℕ → Shape) → Holds ρ after → Holds ρ before × Fits ρ signature places
  pub extends :
      (ρ : ℕ → Shape) → Holds ρ before → Fits ρ signature places
      → (ρ' : ℕ → Shape) × Holds ρ' after × ((i : ℕ) → i < length before → ρ' i ≡ ρ i)

abbrev pub FitSays : Bool → (before after : List Cell) → Signature → List ℕ → Type 0
FitSays true before after signature places = FitHolds before after signature places
FitSays false before after signature places =
    (ρ : ℕ → Shape) → Holds ρ before → Fits ρ signature places → ⊥
