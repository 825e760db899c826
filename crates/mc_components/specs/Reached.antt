-- What reaches what (the transitive closure, as in Warshall, A Theorem on Boolean Matrices).
use Rattle.std.specs.Prelude.{◌≡◌, ◌<◌, ◌↔◌, ℕ, zero, suc, Bool, true, ◌&&◌, ◌||◌, List}
use Rattle.mc_model.specs.Lists.{is_in}

-- Whether k reaches j by one step or more, where what stands between them is numbered below a bound.
abbrev pub reaches : (next : ℕ → List ℕ) → (bound : ℕ) → (k j : ℕ) → Bool
reaches next zero k j = is_in j (next k)
reaches next (suc b) k j = reaches next b k j || (reaches next b k b && reaches next b b j)

-- a way by steps, where what stands between is numbered below a bound
pub data Way (next : ℕ → List ℕ) (bound : ℕ) : ℕ → ℕ → Type 0 where
  step : {k j : ℕ} → is_in j (next k) ≡ true → Way next bound k j
  over : {k i j : ℕ} → i < bound → Way next bound k i → Way next bound i j → Way next bound k j

-- what is reached is what there is a way to
abbrev pub ReachedByWays : Type 0
ReachedByWays =
    (next : ℕ → List ℕ) (bound k j : ℕ)
    → (reaches next bound k j ≡ true) ↔ Way next bound k j
