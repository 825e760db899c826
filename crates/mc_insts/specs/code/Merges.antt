-- What a walk that merges two insts makes: a node for each pair at a row that is no old node.
use Rattle.std.specs.Prelude.{◌≡◌, ◌⊎◌, ℕ, ◌+◌, ◌<◌, ◌≤◌, true, false, ◌||◌, List, [], length, get_or, map, replicate, is_some}
use Rattle.mc_insts.specs.declared.graph.Case.{Case}
use Rattle.mc_insts.specs.declared.graph.Node.{Node}
use Rattle.mc_insts.specs.declared.graph.Node.TheVariants as N
use Rattle.mc_insts.specs.declared.graph.Shape.{Shape}
use Rattle.mc_insts.specs.declared.graph.Shape.TheVariants as S
use Rattle.mc_insts.specs.declared.triples.Triple.{Triple}
use Rattle.mc_insts.specs.code.Lists.{Stands}
use Rattle.mc_insts.specs.code.Cases.{find_case, argument, node_has, node_arg, row_has, row_arg, marks, Rising, Fitting}
use Rattle.mc_insts.specs.code.Formed.{AllFilled, Formed}
use Rattle.mc_insts.specs.code.Joins.{Join}
use Rattle.mc_insts.specs.code.Steps.{same_of}
use Rattle.mc_insts.specs.code.Walks.{Scene, node_at, arity_of, low_of, high_of, row_of, child, Below, Within, ProperCases}

-- the builtin insts that answers name stand under their numbers
pub record Builtins (ns : List Node) : Type 0 where
  pub ground_there : node_at ns 1 ≡ N.Ground
  pub dead_there : node_at ns 3 ≡ N.Dead
  pub many : 3 < length ns

-- a builtin inst that isn't dead and doesn't include a bound one
abbrev pub Apart : Scene → (b j r : ℕ) → Type 0
Apart C b j r = (1 ≤ marks (node_at C.nodes b)) × ((marks (node_at C.nodes b) ≤ 2) × (Below C (same_of j b r) → ⊥))

-- the next builtin inst that includes it: `ground`, or `dead` where `ground` doesn't
abbrev pub Next : Scene → (j r k : ℕ) → Type 0
Next C j r k = (k ≡ 1) ⊎ ((k ≡ 3) × (Below C (same_of j 1 r) → ⊥))

-- at a type variable no inst allows exactly what one of the two allows, and the next builtin one is taken
abbrev pub Clash : Scene → Triple → (k : ℕ) → Type 0
Clash C u k = (row_of C u ≡ S.Any) × ((Apart C u.low u.high u.row × Next C u.high u.row k) ⊎ (Apart C u.high u.low u.row × Next C u.low u.row k))

-- an old node is above both, and is one of them where there is no clash
pub record Done (C : Scene) (u : Triple) (k : ℕ) : Type 0 where
  pub there : k < length C.nodes
  pub first : Below C (same_of u.low k u.row)
  pub second : Below C (same_of u.high k u.row)
  pub which : (k ≡ u.low) ⊎ ((k ≡ u.high) ⊎ Clash C u k)

-- a node above a builtin inst and a bound one
pub record Widened (C : Scene) (b j r k : ℕ) : Type 0 where
  pub there : k < length C.nodes
  pub first : Below C (same_of b k r)
  pub second : Below C (same_of j k r)
  pub which : (k ≡ b) ⊎ (Apart C b j r × Next C j r k)

-- an old node, or the new one that is made of a triple
abbrev pub Refers : Scene → List Triple → Triple → ℕ → Type 0
Refers C seen u k = Done C u k ⊎ ((n : ℕ) × (Stands seen n u × (k ≡ length C.nodes + n)))

-- of constants and states neither allows any, but at unions
abbrev pub Bare : Node → Node → Shape → Type 0
Bare M K (S.Union cs) = Unit {0}
Bare M K _ = (marks M ≡ 0) × (marks K ≡ 0)

-- what a new node is made of
pub record Open (C : Scene) (u : Triple) : Type 0 where
  pub within : Within C u
  pub bare : Bare (low_of C u) (high_of C u) (row_of C u)

abbrev pub Sound : Scene → List Triple → Type 0
Sound C seen = (n : ℕ) (u : Triple) → Stands seen n u → Open C u

-- what goes with the arguments of both
abbrev pub Both : Scene → List Triple → Triple → (f : ℕ) → (xs ys zs : List ℕ) → Type 0
Both C seen t f xs ys zs = row_has C.known (row_of C t) f ≡ true → (k : ℕ) → k < arity_of C f → Refers C seen (same_of (get_or xs k 0) (get_or ys k 0) (row_arg (row_of C t) t.row f k)) (get_or zs k 0)

-- the cases are those of a node, of the constructors that count
abbrev pub Views : Scene → Triple → (i : ℕ) → List Case → Type 0
Views C t i cs =
    (f : ℕ) → row_has C.known (row_of C t) f ≡ true →
    (node_has (node_at C.nodes i) f ≡ is_some (find_case cs f)) × ((k : ℕ) → k < arity_of C f → node_arg (node_at C.nodes i) i f k ≡ argument (find_case cs f) k)

-- a builtin inst over the constructors of a union
abbrev pub spread : ℕ → Case → Case
spread i c = record { functor = c.functor; args = replicate (length c.args) i }

abbrev pub spread_over : ℕ → Shape → List Case
spread_over i (S.Union cs) = map (spread i) cs
spread_over i _ = []

abbrev pub spread_cases : Node → ℕ → Shape → List Case
spread_cases N.Free i R = []
spread_cases N.Ground i R = spread_over i R
spread_cases N.Unique i R = spread_over i R
spread_cases N.Dead i R = spread_over i R
spread_cases (N.Bound cs) i R = cs

-- the node that is made of a triple
pub record Merges (C : Scene) (seen : List Triple) (t : Triple) (M : Node) : Type 0 where
  pub cases : List Case
  pub is : M ≡ N.Bound cases
  pub bare : Bare (low_of C t) (high_of C t) (row_of C t)
  pub has : (f : ℕ) → row_has C.known (row_of C t) f ≡ true → node_has M f ≡ (node_has (low_of C t) f || node_has (high_of C t) f)
  pub both : (f k : ℕ) → row_has C.known (row_of C t) f ≡ true → k < arity_of C f → node_has (low_of C t) f ≡ true → node_has (high_of C t) f ≡ true → Refers C seen (child C t f k) (node_arg M 0 f k)
  pub first : (f k : ℕ) → row_has C.known (row_of C t) f ≡ true → k < arity_of C f → node_has (low_of C t) f ≡ true → node_has (high_of C t) f ≡ false → node_arg M 0 f k ≡ node_arg (low_of C t) t.low f k
  pub second : (f k : ℕ) → row_has C.known (row_of C t) f ≡ true → k < arity_of C f → node_has (low_of C t) f ≡ false → node_has (high_of C t) f ≡ true → node_arg M 0 f k ≡ node_arg (high_of C t) t.high f k

-- cases that fit, with arguments below a bound
abbrev pub Fits : Scene → (top : ℕ) → List Case → Type 0
Fits C top cs = (k : ℕ) (d : Case) → k < length cs → Fitting (arity_of C) (length C.functors) top (get_or cs k d)

abbrev pub top_of : Scene → List Triple → ℕ
top_of C seen = length C.nodes + length seen

-- what joining two lists of cases gives
pub record JoinedCases (C : Scene) (seen : List Triple) (t : Triple) (lows highs out : List Case) : Type 0 where
  pub rising : Rising out
  pub fits : Fits C (top_of C seen) out
  pub joined : (f : ℕ) → Join (Both C seen t f) (find_case lows f) (find_case highs f) (find_case out f)

-- the nodes that are made for a pair at a row, and what stands for it
pub record Made (C : Scene) (root : Triple) (k : ℕ) (made : List Node) : Type 0 where
  pub seen : List Triple
  pub refers : Refers C seen root k
  pub count : length made ≡ length seen
  pub sound : Sound C seen
  pub merges : (n : ℕ) (u : Triple) → Stands seen n u → Merges C seen u (node_at made n)
  pub fits : (n : ℕ) (cs : List Case) → node_at made n ≡ N.Bound cs → ProperCases C (top_of C seen) cs
  pub filled : Formed C.nodes → (n : ℕ) (cs : List Case) → node_at made n ≡ N.Bound cs → AllFilled cs
