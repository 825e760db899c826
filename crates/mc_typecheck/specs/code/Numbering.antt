-- What is known of the free places that were met.
use Rattle.std.specs.Prelude.{◌≡◌, ℕ, ◌+◌, List, length, Option, Some, None, nat_eq, slice_index_or, if◌then◌else◌}
use Rattle.mc_model.specs.Lists.{is_in, once}
use Rattle.mc_typecheck.specs.VariableTypes.{number_of}
use Rattle.mc_typecheck.specs.declared.numbers.Numbers.{Numbers}

abbrev pub slot_of : Numbers → ℕ → Option ℕ
slot_of n k = slice_index_or n.slots.items k None

-- the places that were met have their numbers, and no others have any
pub record Knows (r : ℕ) (met : List ℕ) (n : Numbers) : Type 0 where
  pub rigid : n.rigid ≡ r
  pub count : n.met ≡ length (once met)
  pub slots : (k : ℕ) → slot_of n k ≡ (if is_in k met then Some (number_of r met k) else None)

-- a place has the next number
pub record IsPut (n : Numbers) (place number : ℕ) (m : Numbers) : Type 0 where
  pub next : number ≡ n.rigid + n.met
  pub rigid : m.rigid ≡ n.rigid
  pub met : m.met ≡ n.met + 1
  pub slots : (k : ℕ) → slot_of m k ≡ (if nat_eq k place then Some number else slot_of n k)
