-- The least determinisms of procedures whose bodies are skeletons. (Mercury Language Reference
-- Manual: Determinism, inference.)
use Rattle.std.specs.Prelude.{◌≡◌, ℕ, ◌<◌, ◌≤◌, false, List, [], length, get_or, Option, Some, None}
use Rattle.mc_source.specs.Determinism.{det, inferred, row_of, Allows}
use Rattle.mc_source.specs.declared.det.Det.{Det}
use Rattle.mc_det_constraints.specs.declared.constraint.Step.{Step}
use Rattle.mc_det_constraints.specs.Skeletons.{value}

-- the determinisms of a list; a number past its end is no procedure
abbrev pub assigned : List Det → ℕ → Det
assigned ds k = get_or ds k (inferred det)

abbrev pub body_at : List (List Step) → ℕ → List Step
body_at bodies k = get_or bodies k []

abbrev pub declared_at : List (Option Det) → ℕ → Option Det
declared_at declared k = get_or declared k None

-- Determinisms are closed: a declared one is as it is declared, and any other is at or above `det`,
-- isn't committed, and allows its body's.
pub record Closed
    (bodies : List (List Step)) (declared : List (Option Det)) (ds : ℕ → Det) : Type 0 where
  pub declared_ones :
      (k : ℕ) (d : Det) → k < length bodies → declared_at declared k ≡ Some d → ds k ≡ d
  pub at_least_det :
      (k : ℕ) → k < length bodies → declared_at declared k ≡ None → Allows (row_of (ds k)) det
  pub uncommitted :
      (k : ℕ) → k < length bodies → declared_at declared k ≡ None → (ds k).committed ≡ false
  pub allows :
      (k : ℕ)
      → k < length bodies → declared_at declared k ≡ None
      → Allows (row_of (ds k)) (value ds (body_at bodies k))
  pub others : (k : ℕ) → length bodies ≤ k → ds k ≡ inferred det

-- The least closed ones: those of any others allow them.
pub record Least
    (bodies : List (List Step)) (declared : List (Option Det)) (ds : ℕ → Det) : Type 0 where
  pub closed : Closed bodies declared ds
  pub least :
      (es : ℕ → Det)
      → Closed bodies declared es → (k : ℕ) → k < length bodies
      → Allows (row_of (es k)) (row_of (ds k))
