-- Definitions by their numbers, and names with numbers.
use Rattle.std.specs.Prelude.{ℕ, ◌+◌, Bool, List, [], ◌∷◌, Option, Some, None, if◌then◌else◌}
use Rattle.std.specs.Str.{bytes_eq}

-- the numbers of those definitions that pass a test, where the first has the number n
abbrev pub numbers_where : {A : Type 0} → (A → Bool) → (n : ℕ) → List A → List ℕ
numbers_where p n [] = []
numbers_where p n (x ∷ xs) =
    if p x then n ∷ numbers_where p (n + 1) xs else numbers_where p (n + 1) xs

-- the number that a name means among names with numbers
abbrev pub number_of : List (List ℕ × ℕ) → List ℕ → Option ℕ
number_of [] w = None
number_of (e ∷ es) w = if bytes_eq w e.0 then Some e.1 else number_of es w
