-- How code grows while it is made: at the ends of its lists.
use Rattle.std.specs.Prelude.{◌≡◌, ◌⊎◌, ℕ, ◌<◌, List, ◌++◌, length}
use Rattle.mc_model.specs.Scheduled.{Arms}
use Rattle.mc_flat_code.specs.Running.{IsCode}
use Rattle.mc_flat_code.specs.Standing.{Holds, Chain, Keyed, Cased}
use Rattle.mc_flat_code.specs.declared.code.Span.{Span}
use Rattle.mc_flat_code.specs.declared.code.Branch.{Branch}
use Rattle.mc_flat_code.specs.declared.code.Code.{Code}

-- a list that goes on
abbrev pub Continues : {A : Type 0} → List A → List A → Type 0
Continues {A} xs ys = (more : List A) × (ys ≡ xs ++ more)

pub record Grows (old new : Code) : Type 0 where
  pub instrs : Continues old.instrs.items new.instrs.items
  pub variables : Continues old.variables.items new.variables.items
  pub values : Continues old.values.items new.values.items
  pub branches : Continues old.branches.items new.branches.items

-- code that has grown, with a place in it
pub record Laid (old new : Code) (place : ℕ) : Type 0 where
  pub grows : Grows old new
  pub is_code : IsCode new
  pub within : place < length new.instrs.items

-- a part of the branches is for arms that stand in places
pub record IsKeyed (code : Code) (v : ℕ) (arms : Arms) (ps : List ℕ) (part : Span) : Type 0 where
  pub branches : List Branch
  pub held : Holds code.branches.items part branches
  pub keyed : Keyed code v arms branches ps

-- arms are tried one after another, or by a case
abbrev pub IsChosen : Code → ℕ → Arms → List ℕ → ℕ → Type 0
IsChosen code v arms ps pc = Chain code ps pc ⊎ Cased code v arms ps pc
