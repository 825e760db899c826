-- Procedures that are to be looked at.
use Rattle.std.specs.Prelude.{◌≡◌, ◌⊎◌, ℕ, ◌+◌, ◌≤◌, List, length, get_or, true, false}
use Rattle.std.specs.List.{Contains}
use Rattle.mc_det_constraints.specs.declared.pending.Pending.{Pending}

-- those that are noted are there
abbrev pub IsPending : Pending → Type 0
IsPending w =
    (p : ℕ) → get_or w.flags.items p false ≡ true → Contains w.list.items p

-- some were put on, where they weren't there
pub record PutAll (ps before after : List ℕ) : Type 0 where
  pub kept : (q : ℕ) → Contains before q → Contains after q
  pub are_there : (q : ℕ) → Contains ps q → Contains after q
  pub no_other : (q : ℕ) → Contains after q → Contains before q ⊎ Contains ps q
  pub fewer : length after ≤ length before + length ps
