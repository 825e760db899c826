-- How the rules that sources break are listed: one rule at most for each item, in the order of the
-- items (this project's profile).
use Rattle.std.specs.Prelude.{ℕ, Bool, nat_eq, nat_lt, ◌&&◌, ◌||◌, List, [], ◌∷◌, ◌++◌, Option, Some, None, if◌then◌else◌}
use Rattle.mc_source.specs.declared.rule.Rule.{Rule}
use Rattle.mc_source.specs.declared.rule.Broken.{Broken}
use Rattle.mc_source.specs.declared.place.Place.{Place}

-- a rule that is broken, with what is said of it
abbrev pub Fault : Type 0
Fault = Rule × List ℕ

-- what is listed of an item at a place: its first broken rule, where it breaks one
abbrev pub broken_at : Place → Option Fault → List Broken
broken_at place None = []
broken_at place (Some fault) = record { rule = fault.0; at = place; what = fault.1 } ∷ []

-- The first broken rule of each faulty item, in the order of the items.
abbrev pub first_rules : {A : Type 0} → (A → Place) → (A → Option Fault) → List A → List Broken
first_rules place rule [] = []
first_rules place rule (item ∷ items) =
    broken_at (place item) (rule item) ++ first_rules place rule items

-- Broken rules by their places; of those in one place the first comes first.
abbrev pub stands_before : Place → Place → Bool
stands_before p q = nat_lt p.file q.file || (nat_eq p.file q.file && nat_lt p.line q.line)

abbrev pub put_in : Broken → List Broken → List Broken
put_in b [] = b ∷ []
put_in b (c ∷ cs) = if stands_before c.at b.at then c ∷ put_in b cs else b ∷ c ∷ cs

abbrev pub by_place : List Broken → List Broken
by_place [] = []
by_place (b ∷ bs) = put_in b (by_place bs)
