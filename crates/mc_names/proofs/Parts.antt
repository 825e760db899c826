-- The parts of a name by the length of a slice.
use Rattle.std.proofs.Common.{◌≡◌, ℕ, ◌≤◌, ◌-◌, List, [], ◌∷◌, length, get_or, take, suc, refl, ap, arith}
use Rattle.mc_decl_syntax.specs.Plain.{Path}
use Rattle.mc_names.specs.Plain.{qualifiers, last_part}

pub last_of : (w : Path) (x : List ℕ) → 1 ≤ length w → x ≡ get_or w (length w - 1) x → x ≡ last_part w
last_of [] x h e = absurd (omega arith)
last_of (v ∷ []) x h e = e
last_of (v ∷ (u ∷ w)) x h e = last_of (u ∷ w) x (omega arith) (let k : length (v ∷ (u ∷ w)) - 1 ≡ suc (length (u ∷ w) - 1) = omega arith in rw k at e)

pub front_of : (w : Path) → 1 ≤ length w → take (length w - 1) w ≡ qualifiers w
front_of [] h = absurd (omega arith)
front_of (v ∷ []) h = refl
front_of (v ∷ (u ∷ w)) h = let k : length (v ∷ (u ∷ w)) - 1 ≡ suc (length (u ∷ w) - 1) = omega arith in rw k (ap (λ q. v ∷ q) (front_of (u ∷ w) (omega arith)))
