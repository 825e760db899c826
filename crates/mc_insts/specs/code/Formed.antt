-- Nodes in good form: the first four are the builtin insts, and the others are bound and free nowhere inside.
use Rattle.std.specs.Prelude.{◌≡◌, ℕ, suc, ◌<◌, List, length, get_or}
use Rattle.mc_insts.specs.declared.graph.Case.{Case}
use Rattle.mc_insts.specs.declared.graph.Node.{Node}
use Rattle.mc_insts.specs.declared.graph.Node.TheVariants as N
use Rattle.mc_insts.specs.code.Walks.{node_at}

-- none of these insts is free
abbrev pub Filled : List ℕ → Type 0
Filled is = (k : ℕ) → k < length is → 0 < get_or is k 0

abbrev pub AllFilled : List Case → Type 0
AllFilled cs = (k : ℕ) (d : Case) → k < length cs → Filled (get_or cs k d).args

pub record Formed (ns : List Node) : Type 0 where
  pub is_free : node_at ns 0 ≡ N.Free
  pub is_ground : node_at ns 1 ≡ N.Ground
  pub is_unique : node_at ns 2 ≡ N.Unique
  pub is_dead : node_at ns 3 ≡ N.Dead
  pub are_bound : (i : ℕ) → (cs : List Case) × (node_at ns (suc (suc (suc (suc i)))) ≡ N.Bound cs)
  pub filled : (i : ℕ) (cs : List Case) → node_at ns i ≡ N.Bound cs → AllFilled cs
