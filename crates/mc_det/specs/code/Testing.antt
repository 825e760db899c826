-- Variables that stand in a list.
use Rattle.std.specs.Prelude.{ℕ, nat_eq, List, Bool}
use Rattle.std.specs.List.{list_any}

abbrev pub stands_in : List ℕ → ℕ → Bool
stands_in xs x = list_any (λ y. nat_eq x y) xs
