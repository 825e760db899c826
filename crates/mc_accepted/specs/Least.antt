-- The least number of a list for which a test holds.
use Rattle.std.specs.Prelude.{ℕ, List, [], ◌∷◌, Option, Some, None, Bool, nat_lt, if◌then◌else◌}

abbrev pub lesser : ℕ → Option ℕ → ℕ
lesser x None = x
lesser x (Some y) = if nat_lt y x then y else x

abbrev pub least : (ℕ → Bool) → List ℕ → Option ℕ
least f [] = None
least f (x ∷ xs) = if f x then Some (lesser x (least f xs)) else least f xs
