-- What a walk finds that looks for `unique` and `dead` outside io's state. It visits an inst at a row as
-- a triple of that inst, twice, and the row.
use Rattle.std.specs.Prelude.{◌≡◌, ℕ, ◌<◌, List, get_or}
use Rattle.mc_insts.specs.declared.graph.Case.{Case}
use Rattle.mc_insts.specs.declared.graph.Node.{Node}
use Rattle.mc_insts.specs.declared.graph.Node.TheVariants as N
use Rattle.mc_insts.specs.declared.graph.Shape.{Shape}
use Rattle.mc_insts.specs.declared.graph.Shape.TheVariants as S
use Rattle.mc_insts.specs.declared.triples.Triple.{Triple}
use Rattle.mc_insts.specs.code.Lists.{Stands}
use Rattle.mc_insts.specs.code.Walks.{Scene, arity_of, low_of, row_of, child, Counts}

-- a node may stand at a row
abbrev pub IsFair : Node → Shape → Type 0
IsFair N.Unique R = R ≡ S.State
IsFair N.Dead R = R ≡ S.State
IsFair _ R = Unit {0}

-- the arguments of a constructor stand among those that are to be visited
abbrev pub AreSeen : Scene → List Triple → Triple → (functor : ℕ) → Type 0
AreSeen C seen t f = (k : ℕ) → k < arity_of C f → (n : ℕ) × Stands seen n (child C t f k)

-- so do those of the first n cases that count
abbrev pub SeenCases : Scene → List Triple → Triple → List Case → ℕ → Type 0
SeenCases C seen t cs n =
    (m : ℕ) (d : Case) → m < n → Counts C t (get_or cs m d).functor → AreSeen C seen t (get_or cs m d).functor

-- an inst may stand at its row, and so do the arguments of what it lists
pub record Looked (C : Scene) (seen : List Triple) (t : Triple) : Type 0 where
  pub fair : IsFair (low_of C t) (row_of C t)
  pub listed :
      (cs : List Case) → low_of C t ≡ N.Bound cs
      → (f : ℕ) → Counts C t f → AreSeen C seen t f
