-- The insts of variables at a point, as lists.
use Rattle.std.specs.Prelude.{ℕ, nat_eq, ◌<◌, List, [], ◌∷◌, get_or, set, if◌then◌else◌}
use Rattle.mc_accepted.specs.Ordered.{Insts}

-- what stands in a list; numbers past its end are free
abbrev pub insts_in : List ℕ → Insts
insts_in is x = get_or is x 0

abbrev pub changed : ℕ → ℕ → Insts → Insts
changed x i b y = if nat_eq y x then i else b y

-- the variables that change are there
abbrev pub ChangesBelow : ℕ → List (ℕ × ℕ) → Type 0
ChangesBelow n [] = Unit {0}
ChangesBelow n ((x, i) ∷ changes) = (x < n) × ChangesBelow n changes

-- what stood before changes, from what each of them found, the last of them first
abbrev pub undone : List (ℕ × ℕ) → List ℕ → List ℕ
undone [] is = is
undone ((x, i) ∷ found) is = set (undone found is) x i
