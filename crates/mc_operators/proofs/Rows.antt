-- The test of bytes that code has is the one that the tables of operators have.
use Rattle.std.proofs.Common.{◌≡◌, ℕ, ◌&&◌, List, [], ◌∷◌, nat_eq, refl, ap}
use Rattle.std.specs.Str.{bytes_eq}
use Rattle.mc_operators.specs.Table.{same_name}

pub same_bytes : (v w : List ℕ) → bytes_eq v w ≡ same_name v w
same_bytes [] [] = refl
same_bytes [] (y ∷ ys) = refl
same_bytes (x ∷ xs) [] = refl
same_bytes (x ∷ xs) (y ∷ ys) = ap (λ b. nat_eq x y && b) (same_bytes xs ys)
