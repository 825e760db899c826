-- What a table of slots knows of the variables of a clause that were met.
use Rattle.std.specs.Prelude.{◌≡◌, ℕ, ◌+◌, List, [], ◌∷◌, ◌++◌, length, Bool, true, false, nat_eq, Option, Some, None, slice_index_or, if◌then◌else◌}
use Rattle.std.specs.Option.{is_some}
use Rattle.mc_program.specs.Programs.{Expression, expressions}
use Rattle.mc_accepted.specs.Scope.{variables_in_all}
use Rattle.mc_model.specs.Lists.{is_in, once, place_in}
use Rattle.mc_accepted.specs.Normal.{head_place, no_arguments}
use Rattle.mc_goals.specs.declared.numbers.Number.{Number}
use Rattle.mc_goals.specs.declared.numbers.Number.TheVariants as N
use Rattle.mc_goals.specs.declared.numbering.Numbering.{Numbering}

-- the variables of head arguments
abbrev pub head_variables : List Expression → List ℕ
head_variables hs = variables_in_all (expressions hs)

abbrev pub slot_of : Numbering → ℕ → Option Number
slot_of b v = slice_index_or b.slots.items v None

-- a variable's slot was set
abbrev pub IsPut : Numbering → ℕ → Number → Numbering → Type 0
IsPut b v k b' =
    ((w : ℕ) → slot_of b' w ≡ (if nat_eq w v then Some k else slot_of b w))
    × (b'.others.items ≡ b.others.items)
    × (b'.first ≡ b.first)

-- nothing changed
abbrev pub IsKept : Numbering → Numbering → Type 0
IsKept b b' =
    ((w : ℕ) → slot_of b' w ≡ slot_of b w)
    × (b'.others.items ≡ b.others.items)
    × (b'.first ≡ b.first)

-- a variable was met: it is another one, where it wasn't met before
abbrev pub MetIf : (before : Bool) → Numbering → ℕ → Numbering → Type 0
MetIf true b v b' = IsKept b b'
MetIf false b v b' =
    ((w : ℕ)
    → slot_of b' w
    ≡ (if nat_eq w v then Some (N.Other (b.first + length b.others.items)) else slot_of b w))
    × (b'.others.items ≡ b.others.items ++ v ∷ [])
    × (b'.first ≡ b.first)

abbrev pub Met : Numbering → ℕ → Numbering → Type 0
Met b v b' = MetIf (is_some (slot_of b v)) b v b'

-- a variable was met as a head argument
abbrev pub MetArgumentIf : (before : Bool) → Numbering → ℕ → (place : ℕ) → Numbering → Type 0
MetArgumentIf true b v k b' = IsKept b b'
MetArgumentIf false b v k b' = IsPut b v (N.Argument k) b'

abbrev pub MetArgument : Numbering → ℕ → (place : ℕ) → Numbering → Type 0
MetArgument b v k b' = MetArgumentIf (is_some (slot_of b v)) b v k b'

-- the number of a variable that was met
abbrev pub number_for : ℕ → List ℕ → Option ℕ → ℕ → Number
number_for n others None v = N.Other (n + place_in v others)
number_for n others (Some k) v = N.Argument k

-- The variables ys were met, and those of these head arguments are among them.
pub record Knows (n : ℕ) (head : List Expression) (ys : List ℕ) (b : Numbering) : Type 0 where
  pub first : b.first ≡ n
  pub others : b.others.items ≡ no_arguments head (once ys)
  pub slots :
      (v : ℕ)
      → slot_of b v
      ≡ (if is_in v ys then Some (number_for n (no_arguments head (once ys)) (head_place v head) v)
      else None)
  pub heads : (v : ℕ) → is_in v ys ≡ false → head_place v head ≡ None
