-- The values that are still to be looked at, whether a program has their symbols.
use Rattle.std.specs.Prelude.{ℕ, suc, ◌+◌, ◌<◌, ◌≤◌, ◌↔◌, Bool, List, [], ◌∷◌, map, IsTrue, ⊤}
use Rattle.std.specs.Borrow.{Bor}
use Rattle.mc_program.specs.Values.{Val, con, Vals, no_vals, val_then, vals, plain_value}
use Rattle.mc_program.specs.declared.value.Value.{Value}
use Rattle.mc_program.specs.Printed.{AllSymbolsBelow}

-- a value that is no constructor
abbrev pub HasNoSymbol : Val → Type 0
HasNoSymbol (con symbol args) = ⊥
HasNoSymbol _ = ⊤

-- the symbols of values are below n
abbrev pub AreBelow : (n : ℕ) → List Value → Type 0
AreBelow n values = AllSymbolsBelow n (vals (map plain_value values))

-- and so are those of all that is left
abbrev pub LeftBelow : (n : ℕ) → List (Bor (List Value)) → Type 0
LeftBelow n [] = ⊤
LeftBelow n (values ∷ left) = AreBelow n values.now × LeftBelow n left

abbrev mutual
  -- how much there is to be looked at of a value
  pub looks : Val → ℕ
  looks (con symbol args) = suc (all_looks args)
  looks _ = 1

  pub all_looks : Vals → ℕ
  all_looks no_vals = 0
  all_looks (val_then v vs) = suc (looks v + all_looks vs)

abbrev pub looks_left : List (Bor (List Value)) → ℕ
looks_left [] = 0
looks_left (values ∷ left) = suc (all_looks (vals (map plain_value values.now))) + looks_left left

-- values were put to what is left
pub record IsLeft (values : List Value) (before after : List (Bor (List Value))) : Type 0 where
  pub below : (n : ℕ) → LeftBelow n after ↔ (AreBelow n values × LeftBelow n before)
  pub most : looks_left after ≤ suc (all_looks (vals (map plain_value values))) + looks_left before

-- the first of values was looked at: all of them and what was left are below n where its symbol and
-- what is left then are
pub record IsLooked (n : ℕ) (values : List Value) (before after : List (Bor (List Value))) (named : Bool) : Type 0 where
  pub below : (IsTrue named × LeftBelow n after) ↔ (AreBelow n values × LeftBelow n before)
  pub fewer : looks_left after < suc (all_looks (vals (map plain_value values))) + looks_left before
