-- Slots of a table: more of them, and one that is set.
use Rattle.std.proofs.Common.{◌≡◌, ◌<◌, ℕ, zero, suc, List, [], ◌∷◌, ◌++◌, length, get_or, set, Bool, true, false, cond, nat_eq, refl}
use Rattle.std.proofs.lemmas.Bool.{eqb-true, eqb-false}
use Rattle.std.proofs.lemmas.List.{get_or-set_other}
use Rattle.std.proofs.lemmas.Grind.{get_or-set_at}

-- a slot like those that are missing changes nothing
pub slot_more : {A : Type 0} (xs : List A) (d : A) (w : ℕ) → get_or (xs ++ d ∷ []) w d ≡ get_or xs w d
slot_more [] d zero = refl
slot_more [] d (suc w) = refl
slot_more (x ∷ xs) d zero = refl
slot_more (x ∷ xs) d (suc w) = slot_more xs d w

pub slot_set : {A : Type 0} (xs : List A) (k w : ℕ) (y d : A) → k < length xs → get_or (set xs k y) w d ≡ cond (nat_eq w k) y (get_or xs w d)
slot_set xs k w y d h = by_test (nat_eq w k) (eqb-true w k) (eqb-false w k)
  where
    by_test : (t : Bool) → (t ≡ true → w ≡ k) → (t ≡ false → w ≡ k → ⊥) → get_or (set xs k y) w d ≡ cond t y (get_or xs w d)
    by_test true e n = get_or-set_at xs k w y d (e refl) h
    by_test false e n = get_or-set_other xs k w y d (n refl)
