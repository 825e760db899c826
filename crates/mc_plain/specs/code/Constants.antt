-- The Refs of the constants that a code names, by their places.
use Rattle.std.specs.Prelude.{◌≡◌, ℕ, List, All, map}
use Rattle.mc_program.specs.Values.{plain_value}
use Rattle.mc_values.specs.Heap.{IsLive, values_at}
use Rattle.mc_values.specs.declared.heap.Heap.{Heap}
use Rattle.mc_flat_code.specs.declared.code.Code.{Code}

pub record AreConstants (h : Heap) (code : Code) (refs : List ℕ) : Type 0 where
  pub live : All (IsLive h) refs
  pub values : values_at h refs ≡ map plain_value code.values.items
