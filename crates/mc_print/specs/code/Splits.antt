-- A constructor taken apart before its last argument.
use Rattle.std.specs.Prelude.{◌≡◌, ℕ, ◌<◌, List, [], ◌∷◌, ◌++◌}
use denote.Param.Weighed.{most}
use Rattle.mc_program.specs.declared.value.Value.{Value, Con, size-Value}

-- v is the symbol over the front and the last argument, which are smaller
pub record IsSplit (v : Value) (symbol : ℕ) (front : List Value) (last : Value) : Type 0 where
  pub whole : v ≡ Con symbol (front ++ (last ∷ []))
  pub front_smaller : most size-Value front < size-Value v
  pub last_smaller : size-Value last < size-Value v
