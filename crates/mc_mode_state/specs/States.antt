-- What is kept while a clause's goals are put in order: as insts at a point, as a test of what
-- occurs outside, and as a trail that leads back.
use Rattle.std.specs.Prelude.{◌≡◌, ℕ, ◌<◌, ◌≤◌, Bool, List, [], ◌∷◌, length, get_or, take, drop, not, nat_eq}
use Rattle.mc_accepted.specs.Arranged.{Point, with_inst}
use Rattle.mc_mode_state.specs.declared.state.State.{State}
use Rattle.mc_mode_state.specs.declared.state.Snapshot.{Snapshot}

-- a variable that has no inst yet is free
abbrev pub point_of : List ℕ → Point ℕ
point_of is = λ x. get_or is x 0

-- what occurs at least once
abbrev pub is_outside : List ℕ → ℕ → Bool
is_outside counts = λ x. not (nat_eq (get_or counts x 0) 0)

abbrev pub snapshot_of : State → Snapshot
snapshot_of s = record { trail = length s.trail.items; variables = length s.insts.items }

-- insts as they were before these were replaced, the last first
abbrev pub undo : List (ℕ × ℕ) → Point ℕ → Point ℕ
undo [] b = b
undo (e ∷ es) b = with_inst ℕ e.0 e.1 (undo es b)

-- insts were replaced of variables that are there
abbrev pub TrailWithin : (variables : ℕ) → List (ℕ × ℕ) → Type 0
TrailWithin n [] = Unit {0}
TrailWithin n (e ∷ es) = (e.0 < n) × TrailWithin n es

-- the trail of the second leads back to the insts of the first
pub record TrailRestores (s t : State) : Type 0 where
  pub kept : take (length s.trail.items) t.trail.items ≡ s.trail.items
  pub back :
      undo (drop (length s.trail.items) t.trail.items) (point_of t.insts.items)
      ≡ point_of s.insts.items

-- one state is another, but for nodes that were found
pub record SameState (s t : State) : Type 0 where
  pub point : point_of t.insts.items ≡ point_of s.insts.items
  pub count : length t.insts.items ≡ length s.insts.items
  pub trail : t.trail.items ≡ s.trail.items
  pub outside : (x : ℕ) → get_or t.outside.items x 0 ≡ get_or s.outside.items x 0
  pub outsides : length t.outside.items ≡ length s.outside.items
  pub types : t.types.items ≡ s.types.items

-- The second state comes after the first: variables may have come and insts may have changed, and
-- the same occurs outside.
pub record Later (s t : State) : Type 0 where
  pub leads : TrailRestores s t
  pub more : length s.insts.items ≤ length t.insts.items
  pub outside : (x : ℕ) → get_or t.outside.items x 0 ≡ get_or s.outside.items x 0
  pub types : take (length s.types.items) t.types.items ≡ s.types.items

-- each variable has an inst, a count and a type
pub record SameLengths (s : State) : Type 0 where
  pub outside : length s.outside.items ≡ length s.insts.items
  pub types : length s.types.items ≡ length s.insts.items
