-- Lists of numbers, such as the variables of a goal.
use Rattle.std.specs.Prelude.{◌≡◌, ◌⊎◌, ℕ, zero, suc, List, [], ◌∷◌, Bool, true, false, nat_eq, if◌then◌else◌}

-- a number is in a list; whether it is
abbrev pub In : ℕ → List ℕ → Type 0
In x [] = ⊥
In x (y ∷ ys) = (x ≡ y) ⊎ In x ys

abbrev pub is_in : ℕ → List ℕ → Bool
is_in x [] = false
is_in x (y ∷ ys) = if nat_eq x y then true else is_in x ys

-- a list without the numbers of another
abbrev pub without : List ℕ → List ℕ → List ℕ
without [] vs = []
without (x ∷ xs) vs = if is_in x vs then without xs vs else x ∷ without xs vs

-- no number is in both lists
abbrev pub Apart : List ℕ → List ℕ → Type 0
Apart xs ys = (x : ℕ) → In x xs → In x ys → ⊥

-- each number of the first list is in the second
abbrev pub Among : List ℕ → List ℕ → Type 0
Among xs ys = (x : ℕ) → In x xs → In x ys

-- no number stands twice
abbrev pub Distinct : List ℕ → Type 0
Distinct [] = Unit {0}
Distinct (x ∷ xs) = (In x xs → ⊥) × Distinct xs

-- each number of a list once, in order of its first place
abbrev pub once : List ℕ → List ℕ
once [] = []
once (x ∷ xs) = x ∷ without (once xs) (x ∷ [])

-- n, n + 1, .. and so on, as many as that
abbrev pub from : ℕ → ℕ → List ℕ
from n zero = []
from n (suc k) = n ∷ from (suc n) k

-- the place of a number in a list, or that of the list's end
abbrev pub place_in : ℕ → List ℕ → ℕ
place_in x [] = 0
place_in x (y ∷ ys) = if nat_eq x y then 0 else suc (place_in x ys)
