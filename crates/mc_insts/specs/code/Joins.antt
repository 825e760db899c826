-- Two lists of cases joined into one, in the order of their functors.
use Rattle.std.specs.Prelude.{◌≡◌, ℕ, ◌<◌, ◌≤◌, List, length, get_or, Option, Some, None}
use Rattle.mc_insts.specs.declared.graph.Case.{Case}
use Rattle.mc_insts.specs.code.Cases.{find_case, Rising}

-- what stands under a functor in the joined list: what one of the two has, or what goes with both
abbrev pub Join : (List ℕ → List ℕ → List ℕ → Type 0) → (low high out : Option (List ℕ)) → Type 0
Join R None None out = out ≡ None
Join R (Some xs) None out = out ≡ Some xs
Join R None (Some ys) out = out ≡ Some ys
Join R (Some xs) (Some ys) out = (zs : List ℕ) × ((out ≡ Some zs) × R xs ys zs)

-- a functor comes before all cases from a place on
abbrev pub Ahead : List Case → ℕ → ℕ → Type 0
Ahead cs a f = (k : ℕ) (d : Case) → a ≤ k → k < length cs → f < (get_or cs k d).functor

-- a number of cases come before a functor
abbrev pub Behind : List Case → ℕ → ℕ → Type 0
Behind cs n f = (k : ℕ) (d : Case) → k < n → (get_or cs k d).functor < f

-- The first so many cases of both lists are joined. The relation says of a functor what goes with the arguments of both.
pub record Joining (R : ℕ → List ℕ → List ℕ → List ℕ → Type 0) (lows highs : List Case) (a b : ℕ) (out : List Case) : Type 0 where
  pub rising : Rising out
  pub out_low : (d : Case) → a < length lows → Behind out (length out) (get_or lows a d).functor
  pub out_high : (d : Case) → b < length highs → Behind out (length out) (get_or highs b d).functor
  pub low_high : (d : Case) → b < length highs → Behind lows a (get_or highs b d).functor
  pub high_low : (d : Case) → a < length lows → Behind highs b (get_or lows a d).functor
  pub joined : (f : ℕ) → Ahead lows a f → Ahead highs b f → Join (R f) (find_case lows f) (find_case highs f) (find_case out f)
