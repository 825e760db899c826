-- The arguments of a value, and the values that have some.
use Rattle.std.proofs.Common.{◌≡◌, ℕ, ◌<◌, length, get_or, arith, List, map, refl, ap, sym, ◌∙◌}
use Rattle.std.specs.List.{All}
use Rattle.std.proofs.lemmas.List.{length-map, get_or-map}
use Rattle.mc_program.specs.Values.{Val, plain_value}
use Rattle.mc_program.specs.declared.value.Value.{Value, Con}
use Rattle.mc_program.proofs.Views.{plain_value-Con, listed-vals}
use Rattle.mc_values.specs.Parts.{arguments}
use Rattle.mc_values.specs.Heap.{IsLive}
use Rattle.mc_values.specs.declared.cell.Cell.{Cell}
use Rattle.mc_values.specs.declared.cell.Cell.TheVariants as C
use Rattle.mc_values.specs.code.Cells.{refs_of, args_of, named_of, plain_of}

pub arguments-Con : (s : ℕ) (args : List Value) → arguments (plain_value (Con s args)) ≡ map plain_value args
arguments-Con s args = ap arguments (plain_value-Con s args) ∙ listed-vals (map plain_value args)

pub arguments-cell : (f : ℕ → Val) (c : Cell) → arguments (plain_of f c) ≡ map f (args_of c)
arguments-cell f (C.Int i) = refl
arguments-cell f (C.Char i) = refl
arguments-cell f (C.Text t) = refl
arguments-cell f (C.Io s) = refl
arguments-cell f (C.Con s args) = listed-vals (map f (refs_of args))

-- what Refs below a live one are
pub live_below : (held : List Value) (r : ℕ) (refs : List ℕ) → IsLive held r → All (λ a. a < r) refs → All (IsLive held) refs
unfolding IsLive
live_below held r refs live below = λ k d lt. let b = below k d lt in omega arith

-- a row of Refs that stand for some values has each of those
pub argument_at : (f : ℕ → Val) (refs : List ℕ) (vs : List Val) (k r : ℕ) → map f refs ≡ vs → k < length vs → r ≡ get_or refs k 0 → f r ≡ get_or vs k (f r)
argument_at f refs vs k r e lt at =
    let within : k < length refs = omega (arith, ap length e, length-map refs f) in
    ap f at ∙ sym (get_or-map f refs k 0 (f r) within) ∙ ap (λ l. get_or l k (f r)) e

-- the arguments are among the cells that a cell names
pub args_named : (P : ℕ → Type 0) (c : Cell) → All P (named_of c) → All P (args_of c)
args_named P (C.Int i) all = all
args_named P (C.Char i) all = all
args_named P (C.Text t) all = all
args_named P (C.Io s) all = λ i d lt. absurd (omega arith)
args_named P (C.Con s args) all = all
