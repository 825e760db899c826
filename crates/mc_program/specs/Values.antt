-- Values as plain data, without rows. (Mercury Language Reference Manual: Types; Semantics.)
use Rattle.std.specs.Prelude.{ℕ, ℤ, Bool, true, false, ◌&&◌, nat_eq, List, [], ◌∷◌}
use Rattle.std.specs.Ordering.{int_eq}
use Rattle.std.specs.Cmp.Lexicographic.{pointwise}
use Rattle.mc_program.specs.declared.value.Value.{Value}
use Rattle.mc_program.specs.declared.value.Value.TheOpen as V
use Rattle.mc_program.specs.declared.value.Value.TheFolds.{fold-Value}

mutual
  -- a value: an integer, a character, a string, a constructor over its arguments, or a state of io,
  -- which is the bytes written so far and the number of input bytes taken so far
  pub data Val : Type 0 where
    int : (n : ℤ) → Val
    char : (code : ℕ) → Val
    str : (bytes : List ℕ) → Val
    con : (symbol : ℕ) → (args : Vals) → Val
    state : (written : List ℕ) → (taken : ℕ) → Val

  pub data Vals : Type 0 where
    no_vals : Vals
    val_then : Val → Vals → Vals

-- the values of a list
abbrev pub vals : List Val → Vals
vals [] = no_vals
vals (v ∷ vs) = val_then v (vals vs)

-- the list of the values
abbrev pub listed : Vals → List Val
listed no_vals = []
listed (val_then v vs) = v ∷ listed vs

abbrev pub plain_value_step : V.Value-F Val → Val
plain_value_step (V.Int n) = int n
plain_value_step (V.Char c) = char c
plain_value_step (V.Str t) = str t
plain_value_step (V.Con s args) = con s (vals args)
plain_value_step (V.Io written taken) = state written taken

-- the value that is held, without its rows
abbrev pub plain_value : Value → Val
plain_value = fold-Value Val plain_value_step

abbrev mutual
  -- whether two values are equal
  pub same_value : Val → Val → Bool
  same_value (int m) (int n) = int_eq m n
  same_value (char c) (char d) = nat_eq c d
  same_value (str s) (str t) = pointwise nat_eq s t
  same_value (con f vs) (con g ws) = nat_eq f g && same_values vs ws
  same_value (state s m) (state t n) = pointwise nat_eq s t && nat_eq m n
  same_value _ _ = false

  pub same_values : Vals → Vals → Bool
  same_values no_vals no_vals = true
  same_values (val_then v vs) (val_then w ws) = same_value v w && same_values vs ws
  same_values _ _ = false
