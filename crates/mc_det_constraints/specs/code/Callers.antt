-- Who calls whom.
use Rattle.std.specs.Prelude.{◌≡◌, ◌⊎◌, ℕ, ◌<◌, true, List, [], ◌∷◌, ◌++◌, length, get_or}
use Rattle.std.specs.List.{Contains}
use Rattle.mc_det_constraints.specs.declared.constraint.Step.{Step}
use Rattle.mc_det_constraints.specs.Skeletons.{is_call_of, calls}
use Rattle.mc_det_constraints.specs.Least.{body_at}

abbrev pub list_at : List (List ℕ) → ℕ → List ℕ
list_at lists q = get_or lists q []

-- numbers below a count
abbrev pub AllBelow : ℕ → List ℕ → Type 0
AllBelow n ps = (p : ℕ) → Contains ps p → p < n

-- more callers: those that were there, and one more at most, which is there
pub record MoreCallers (p : ℕ) (before after : List (List ℕ)) : Type 0 where
  pub count : length after ≡ length before
  pub kept : (q r : ℕ) → Contains (list_at before q) r → Contains (list_at after q) r
  pub no_other :
      (q r : ℕ) → Contains (list_at after q) r → Contains (list_at before q) r ⊎ (r ≡ p)

-- a caller is put last, where it isn't there
abbrev pub HasPut : (p : ℕ) → (before after : List ℕ) → Type 0
HasPut p before after = ((after ≡ before) × Contains before p) ⊎ (after ≡ before ++ p ∷ [])

-- a procedure is among the callers of one, of what a step calls, and of all that steps call
pub record PutCall (p q : ℕ) (before after : List (List ℕ)) : Type 0 where
  pub more : MoreCallers p before after
  pub is_there : q < length before → Contains (list_at after q) p

pub record PutStep (p : ℕ) (step : Step) (before after : List (List ℕ)) : Type 0 where
  pub more : MoreCallers p before after
  pub is_there :
      (q : ℕ) → q < length before → is_call_of q step ≡ true → Contains (list_at after q) p

pub record PutCalls (p : ℕ) (steps : List Step) (before after : List (List ℕ)) : Type 0 where
  pub more : MoreCallers p before after
  pub are_there :
      (q : ℕ) → q < length before → calls q steps ≡ true → Contains (list_at after q) p

-- of the first bodies: for each procedure, all that call it, and no number that isn't there
pub record AreCallersOf (bodies : List (List Step)) (k : ℕ) (callers : List (List ℕ)) : Type 0 where
  pub count : length callers ≡ length bodies
  pub all :
      (p q : ℕ)
      → p < k → q < length bodies → calls q (body_at bodies p) ≡ true
      → Contains (list_at callers q) p
  pub there : (q : ℕ) → AllBelow k (list_at callers q)

abbrev pub AreCallers : List (List Step) → List (List ℕ) → Type 0
AreCallers bodies callers = AreCallersOf bodies (length bodies) callers
