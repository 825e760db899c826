-- What a heap holds, as a list of values: which Refs are live, the value that each stands for, and
-- what a mark keeps. Contracts cite these and no more, so that a heap of another make has the same
-- contracts.
use Rattle.std.specs.Prelude.{◌≡◌, ℕ, pos, ◌≤◌, ◌<◌, List, map, length, slice_index_or}
use Rattle.mc_program.specs.Values.{Val, plain_value}
use Rattle.mc_program.specs.declared.value.Value.{Int}
use Rattle.mc_values.specs.declared.heap.Heap.{Heap}

-- how many cells are in use
unfoldable pub height : Heap → ℕ
height h = length h

-- r stands for a value
unfoldable pub IsLive : Heap → ℕ → Type 0
IsLive h r = r < length h

-- the value that a live r stands for, and 0 for any other number
unfoldable pub value_at : Heap → ℕ → Val
value_at h r = plain_value (slice_index_or h r (Int (pos 0)))

-- the values that these stand for
abbrev pub values_at : Heap → List ℕ → List Val
values_at h refs = map (value_at h) refs

-- r is kept where the heap is released to this height
unfoldable pub IsBelow : ℕ → ℕ → Type 0
IsBelow mark r = r < mark

-- r is live and stands for this value
pub record StandsFor (h : Heap) (r : ℕ) (v : Val) : Type 0 where
  pub live : IsLive h r
  pub is : value_at h r ≡ v

-- each Ref that was live is live and stands for what it stood for, and no cell is given up
pub record Extends (old new : Heap) : Type 0 where
  pub higher : height old ≤ height new
  pub live : (r : ℕ) → IsLive old r → IsLive new r
  pub same : (r : ℕ) → IsLive old r → value_at new r ≡ value_at old r

-- each Ref below the mark that was live is live and stands for what it stood for
pub record KeepsBelow (mark : ℕ) (old new : Heap) : Type 0 where
  pub live : (r : ℕ) → IsLive old r → IsBelow mark r → IsLive new r
  pub same : (r : ℕ) → IsLive old r → IsBelow mark r → value_at new r ≡ value_at old r

-- what is below a mark is below a higher one
abbrev pub MarksRise : Type 0
MarksRise = (low high r : ℕ) → low ≤ high → IsBelow low r → IsBelow high r
