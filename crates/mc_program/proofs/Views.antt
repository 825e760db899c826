-- The plain view of values has an inverse, and how it computes.
use Rattle.std.proofs.Common.{◌≡◌, ℕ, List, [], ◌∷◌, map, refl, sym, ap, ap₂, ◌∙◌, subst}
use Rattle.mc_program.specs.Values.{Val, int, char, str, con, state, Vals, no_vals, val_then, vals, listed, plain_value, plain_value_step}
use Rattle.mc_program.specs.declared.value.Value.{Value, Con}
use Rattle.mc_program.specs.declared.value.Value.TheOpen as V
use Rattle.mc_program.specs.declared.value.Value.TheViews.{roll-Value}
use Rattle.mc_program.specs.declared.value.Value.TheVariants.{rolls-Con}
use Rattle.mc_program.specs.declared.value.Value.TheFolds.{ind-Value, fold-roll-Value, map-Value}

-- the value of which the data is the view
abbrev mutual
  pub held : Val → Value
  held (int n) = roll-Value (V.Int n)
  held (char c) = roll-Value (V.Char c)
  held (str t) = roll-Value (V.Str t)
  held (con s vs) = roll-Value (V.Con s (all_held vs))
  held (state t k) = roll-Value (V.Io t k)

  pub all_held : Vals → List Value
  all_held no_vals = []
  all_held (val_then v vs) = held v ∷ all_held vs

abbrev IsHeld : Value → Type 0
IsHeld v = held (plain_value v) ≡ v

all_are_held : (vs : List ((v : Value) × IsHeld v)) → all_held (vals (map plain_value (map (λ e. e.0) vs))) ≡ map (λ e. e.0) vs
all_are_held [] = refl
all_are_held (v ∷ vs) = ap₂ (λ x xs. x ∷ xs) v.1 (all_are_held vs)

layer_is_held : (y : V.Value-F ((v : Value) × IsHeld v)) → let x = map-Value ((v : Value) × IsHeld v) Value (λ e. e.0) y in held (plain_value_step (map-Value Value Val plain_value x)) ≡ roll-Value x
layer_is_held (V.Int n) = refl
layer_is_held (V.Char c) = refl
layer_is_held (V.Str t) = refl
layer_is_held (V.Con s args) = ap (λ xs. roll-Value (V.Con s xs)) (all_are_held args)
layer_is_held (V.Io t k) = refl

pub is_held : (v : Value) → IsHeld v
is_held = ind-Value IsHeld (λ x y is.
    ap held (fold-roll-Value Val plain_value_step x) ∙ subst (λ (z : V.Value-F Value). held (plain_value_step (map-Value Value Val plain_value z)) ≡ roll-Value z) is (layer_is_held y))

-- values with one plain view are one value
pub plain_value-injective : (v w : Value) → plain_value v ≡ plain_value w → v ≡ w
plain_value-injective v w e = sym (is_held v) ∙ ap held e ∙ is_held w

-- the plain view of a constructor
pub plain_value-Con : (s : ℕ) (args : List Value) → plain_value (Con s args) ≡ con s (vals (map plain_value args))
plain_value-Con s args = ap plain_value (sym (rolls-Con s args)) ∙ fold-roll-Value Val plain_value_step (V.Con s args)

-- a value whose plain view is a constructor is that constructor
pub held_con : (v : Value) (s : ℕ) (vs : Vals) → plain_value v ≡ con s vs → v ≡ Con s (all_held vs)
held_con v s vs e = sym (is_held v) ∙ ap held e ∙ rolls-Con s (all_held vs)

pub listed-vals : (vs : List Val) → listed (vals vs) ≡ vs
listed-vals [] = refl
listed-vals (v ∷ vs) = ap (λ l. v ∷ l) (listed-vals vs)

all_held-vals : (vs : List Value) → all_held (vals (map plain_value vs)) ≡ vs
all_held-vals [] = refl
all_held-vals (v ∷ vs) = ap₂ (λ x xs. x ∷ xs) (is_held v) (all_held-vals vs)

abbrev args_of : Val → List Value
args_of (con s vs) = all_held vs
args_of _ = []

args_of-Con : (s : ℕ) (vs : List Value) → args_of (plain_value (Con s vs)) ≡ vs
args_of-Con s vs = ap args_of (plain_value-Con s vs) ∙ all_held-vals vs

-- equal constructors have the same arguments
pub Con-args : (s t : ℕ) (vs ws : List Value) → Con s vs ≡ Con t ws → vs ≡ ws
Con-args s t vs ws e = sym (args_of-Con s vs) ∙ ap (λ v. args_of (plain_value v)) e ∙ args_of-Con t ws
