-- A frame: the variables of a body that runs, each with the Ref of the value that it is bound to.
-- What a frame stands for is the bindings of mc_model's runs.
use Rattle.std.specs.Prelude.{ℕ, List, map, Bool, Option, Some, None, slice_index_or, if◌then◌else◌}
use Rattle.mc_program.specs.Values.{Val}
use Rattle.mc_values.specs.Heap.{value_at}
use Rattle.mc_values.specs.declared.heap.Heap.{Heap}
use Rattle.mc_model.specs.Stream.{Bindings}

-- the value of a Ref, where there is one
abbrev pub seen : Heap → Option ℕ → Option Val
seen h None = None
seen h (Some r) = Some (value_at h r)

-- what a frame's variables are bound to; beyond its end there is none
abbrev pub bindings : Heap → List (Option ℕ) → Bindings
bindings h frame = λ x. seen h (slice_index_or frame x None)

-- the values of these variables, where they have some
abbrev pub seen_at : Heap → List (Option ℕ) → List ℕ → List (Option Val)
seen_at h frame vars = map (bindings h frame) vars

-- these, where it holds
abbrev pub given : {A : Type 0} → Bool → A → Option A
given holds a = if holds then Some a else None
