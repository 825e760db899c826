-- The numbers that a table of slots gives to variables.
use Rattle.std.specs.Prelude.{◌≡◌, ℕ, List, Bool, false, nat_eq, Option, Some, None, slice_index_or}
use Rattle.mc_program.specs.Programs.{Expression}
use Rattle.mc_accepted.specs.Normal.{head_place, is_place}
use Rattle.mc_goals.specs.declared.numbers.Number.{Number}
use Rattle.mc_goals.specs.declared.numbers.Number.TheVariants as N
use Rattle.mc_goals.specs.declared.numbers.Numbers.{Numbers}

abbrev pub number_or : ℕ → Option Number → ℕ
number_or rest None = rest
number_or rest (Some (N.Argument k)) = k
number_or rest (Some (N.Other k)) = k

abbrev pub number_at : Numbers → ℕ → ℕ
number_at n v = number_or n.rest (slice_index_or n.slots.items v None)

-- whether a variable is the head variable of this place
abbrev pub own_place : ℕ → Option Number → Bool
own_place i None = false
own_place i (Some (N.Argument k)) = nat_eq i k
own_place i (Some (N.Other k)) = false

-- a table tells which variables of a head are their places' own
abbrev pub Places : Numbers → List Expression → Type 0
Places n head =
    (v i : ℕ)
    → own_place i (slice_index_or n.slots.items v None) ≡ is_place i (head_place v head)
