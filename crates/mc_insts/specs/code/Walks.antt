-- What a walk over insts visits: triples of two nodes and a row of types, their children, and when one inst is below
-- another.
use Rattle.std.specs.Prelude.{◌≡◌, ◌⊎◌, ℕ, zero, suc, ◌<◌, ◌≤◌, true, List, [], length, get_or}
use Rattle.mc_insts.specs.declared.graph.Case.{Case}
use Rattle.mc_insts.specs.code.Functors.{Functor}
use Rattle.mc_insts.specs.declared.graph.InstGraph.{InstGraph}
use Rattle.mc_insts.specs.declared.graph.Shapes.{Shapes}
use Rattle.mc_insts.specs.declared.graph.Node.{Node}
use Rattle.mc_insts.specs.declared.graph.Node.TheVariants as N
use Rattle.mc_insts.specs.declared.graph.Shape.{Shape}
use Rattle.mc_insts.specs.declared.graph.Shape.TheVariants as S
use Rattle.mc_insts.specs.declared.triples.Triple.{Triple}
use Rattle.mc_insts.specs.code.Lists.{Stands}
use Rattle.mc_insts.specs.code.Cases.{node_has, node_arg, row_has, row_arg, marks, Rising, Fitting}

abbrev pub node_at : List Node → ℕ → Node
node_at ns i = get_or ns i (N.Bound [])

abbrev pub shape_at : List Shape → ℕ → Shape
shape_at rows r = get_or rows r S.Constants

abbrev pub no_functor : Functor
no_functor = record { name = []; arity = 0 }

abbrev pub functor_at : List Functor → ℕ → Functor
functor_at fs f = get_or fs f no_functor

-- what a walk reads: the nodes, the arities of functors, the rows of types
pub record Scene : Type 0 where
  pub nodes : List Node
  pub functors : List Functor
  pub rows : List Shape
  pub known : ℕ

abbrev pub scene : InstGraph → Shapes → Scene
scene insts shapes = record { nodes = insts.nodes; functors = insts.functors; rows = shapes.rows; known = shapes.known }

abbrev pub arity_of : Scene → ℕ → ℕ
arity_of C f = (functor_at C.functors f).arity

abbrev pub low_of : Scene → Triple → Node
low_of C t = node_at C.nodes t.low

abbrev pub high_of : Scene → Triple → Node
high_of C t = node_at C.nodes t.high

abbrev pub row_of : Scene → Triple → Shape
row_of C t = shape_at C.rows t.row

-- what stands at an argument
abbrev pub child : Scene → Triple → (f k : ℕ) → Triple
child C t f k = record { low = node_arg (low_of C t) t.low f k; high = node_arg (high_of C t) t.high f k; row = row_arg (row_of C t) t.row f k }

-- the first node allows no more constants and states than the second, at a row
abbrev pub Tips : Node → Node → Shape → Type 0
Tips M N S.Constants = 0 < marks M → 0 < marks N
Tips M N S.State = marks M ≤ marks N
Tips M N S.Any = marks M ≤ marks N
Tips M N (S.Union cs) = Unit {0}

-- the functor counts at the triple's type, and the first node lists it
pub record Counts (C : Scene) (t : Triple) (f : ℕ) : Type 0 where
  pub typed : row_has C.known (row_of C t) f ≡ true
  pub listed : node_has (low_of C t) f ≡ true

-- the first inst is below the second for so many steps
abbrev pub Upto : Scene → ℕ → Triple → Type 0
Upto C zero t = Unit {0}
Upto C (suc n) t =
    Tips (low_of C t) (high_of C t) (row_of C t)
    × ((f : ℕ) → Counts C t f → (node_has (high_of C t) f ≡ true) × ((k : ℕ) → k < arity_of C f → Upto C n (child C t f k)))

abbrev pub Below : Scene → Triple → Type 0
Below C t = (n : ℕ) → Upto C n t

-- a node that is below another at every type: it allows nothing, or both are builtin
abbrev pub Under : Node → Node → Type 0
Under N.Free N = Unit {0}
Under N.Ground N = 2 ≤ marks N
Under N.Unique N = 1 ≤ marks N
Under N.Dead N = 3 ≤ marks N
Under (N.Bound cs) N = ⊥

abbrev pub Settled : List Node → Triple → Type 0
Settled ns t = (t.low ≡ t.high) ⊎ Under (node_at ns t.low) (node_at ns t.high)

-- a triple needs no visit, or stands among those to be visited
abbrev pub Covered : List Node → List Triple → Triple → Type 0
Covered ns seen t = Settled ns t ⊎ ((n : ℕ) × Stands seen n t)

-- where the functor counts, the second node lists it, and its arguments are covered
pub record Passed (C : Scene) (seen : List Triple) (t : Triple) (f : ℕ) : Type 0 where
  pub listed : node_has (high_of C t) f ≡ true
  pub covered : (k : ℕ) → k < arity_of C f → Covered C.nodes seen (child C t f k)

pub record Visited (C : Scene) (seen : List Triple) (t : Triple) : Type 0 where
  pub tips : Tips (low_of C t) (high_of C t) (row_of C t)
  pub passed : (f : ℕ) → Counts C t f → Passed C seen t f

-- a triple is an argument of another
pub record IsChild (C : Scene) (t u : Triple) : Type 0 where
  pub functor : ℕ
  pub argument : ℕ
  pub counts : Counts C t functor
  pub listed : node_has (high_of C t) functor ≡ true
  pub within : argument < arity_of C functor
  pub is : child C t functor argument ≡ u

-- each triple that is new is an argument of this one
abbrev pub Fresh : Scene → Triple → (before after : List Triple) → Type 0
Fresh C t before after = (n : ℕ) (u : Triple) → length before ≤ n → Stands after n u → IsChild C t u

-- the numbers of a triple name what is there
pub record Within (C : Scene) (t : Triple) : Type 0 where
  pub low : t.low < length C.nodes
  pub high : t.high < length C.nodes
  pub row : t.row < length C.rows

pub record ProperCases (C : Scene) (bound : ℕ) (cs : List Case) : Type 0 where
  pub rising : Rising cs
  pub fitting : (k : ℕ) (d : Case) → k < length cs → Fitting (arity_of C) (length C.functors) bound (get_or cs k d)

-- nodes and rows list functors that are there, each once and in order, with their arguments
pub record Proper (C : Scene) : Type 0 where
  pub nodes : (i : ℕ) (cs : List Case) → node_at C.nodes i ≡ N.Bound cs → ProperCases C (length C.nodes) cs
  pub rows : (r : ℕ) (cs : List Case) → shape_at C.rows r ≡ S.Union cs → ProperCases C (length C.rows) cs
  pub known : C.known ≤ length C.functors
