-- What nodes and rows of types list under functors, by numbers.
use Rattle.std.specs.Prelude.{◌≡◌, ℕ, ◌<◌, Bool, true, false, cond, nat_eq, nat_lt, is_some, List, [], ◌∷◌, length, get_or, Option, Some, None}
use Rattle.mc_insts.specs.declared.graph.Case.{Case}
use Rattle.mc_insts.specs.declared.graph.Node.{Node}
use Rattle.mc_insts.specs.declared.graph.Node.TheVariants as N
use Rattle.mc_insts.specs.declared.graph.Shape.{Shape}
use Rattle.mc_insts.specs.declared.graph.Shape.TheVariants as S

-- the arguments of the first case of a functor
abbrev pub find_case : List Case → ℕ → Option (List ℕ)
find_case [] f = None
find_case (c ∷ cs) f = cond (nat_eq c.functor f) (Some c.args) (find_case cs f)

abbrev pub argument : Option (List ℕ) → ℕ → ℕ
argument None k = 0
argument (Some xs) k = get_or xs k 0

-- whether a node lists a functor, and the inst of an argument; the node's own number stands for a builtin inst's
abbrev pub node_has : Node → ℕ → Bool
node_has N.Free f = false
node_has N.Ground f = true
node_has N.Unique f = true
node_has N.Dead f = true
node_has (N.Bound cs) f = is_some (find_case cs f)

abbrev pub node_arg : Node → (i f k : ℕ) → ℕ
node_arg N.Free i f k = 0
node_arg N.Ground i f k = i
node_arg N.Unique i f k = i
node_arg N.Dead i f k = i
node_arg (N.Bound cs) i f k = argument (find_case cs f) k

-- whether a row of types has a constructor of a functor, and the row of an argument
abbrev pub row_has : (known : ℕ) → Shape → ℕ → Bool
row_has known S.Constants f = false
row_has known S.State f = false
row_has known S.Any f = nat_lt f known
row_has known (S.Union cs) f = is_some (find_case cs f)

abbrev pub row_arg : Shape → (r f k : ℕ) → ℕ
row_arg S.Constants r f k = 0
row_arg S.State r f k = 0
row_arg S.Any r f k = r
row_arg (S.Union cs) r f k = argument (find_case cs f) k

-- which states a node allows: none, those with one holder, those with several too, all
abbrev pub marks : Node → ℕ
marks N.Free = 0
marks N.Ground = 2
marks N.Unique = 1
marks N.Dead = 3
marks (N.Bound cs) = 0

-- cases in the order of their functors, each functor once
abbrev pub Rising : List Case → Type 0
Rising [] = Unit {0}
Rising (c ∷ []) = Unit {0}
Rising (c ∷ d ∷ cs) = (c.functor < d.functor) × Rising (d ∷ cs)

-- each case has its functor's number of arguments, and they are below a bound
pub record Fitting (arity : ℕ → ℕ) (functors bound : ℕ) (c : Case) : Type 0 where
  pub functor : c.functor < functors
  pub args : length c.args ≡ arity c.functor
  pub below : (k : ℕ) → k < length c.args → get_or c.args k 0 < bound
