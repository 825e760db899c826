-- The first choices that type all steps, as the search notes them.
use Rattle.std.specs.Prelude.{◌≡◌, ℕ, zero, suc, Bool, true, false, if◌then◌else◌, nat_lt, List, [], ◌∷◌, ◌++◌, length}
use Rattle.mc_types.specs.Writing.{AllStand}
use Rattle.mc_types.specs.declared.cells.Cell.{Cell}
use Rattle.mc_types.specs.declared.written_types.Written.{Written}
use Rattle.mc_types.specs.declared.outcome.Outcome.{Outcome}
use Rattle.mc_types.specs.declared.outcome.Outcome.TheVariants.{None, One, Two, TooMany}

-- the first two are kept
abbrev pub noted : Bool → List (List ℕ) → List ℕ → List (List ℕ)
noted true found cs = if nat_lt (length found) 2 then found ++ cs ∷ [] else found
noted false found cs = found

abbrev pub OutcomeIs : List (List ℕ) → List Written → Outcome → Type 0
OutcomeIs found types None = found ≡ []
OutcomeIs found types (One v ws) = (found ≡ v.items ∷ []) × (ws.items ≡ types)
OutcomeIs found types (Two v w) = found ≡ v.items ∷ w.items ∷ []
OutcomeIs found types TooMany = ⊥

-- the types of the first choices that are found are written out then, and kept
abbrev pub TypesKept : (all_steps : Bool) → (found : ℕ) → List Cell → (vars : ℕ) → (before after : List Written) → Type 0
TypesKept true zero cells vars before after = AllStand cells vars after
TypesKept true (suc n) cells vars before after = after ≡ before
TypesKept false n cells vars before after = after ≡ before
