-- The nodes that definitions make.
use Rattle.std.specs.Prelude.{◌≡◌, ℕ, ◌<◌, List, length, get_or, map, take}
use Rattle.std.specs.List.Sorted.{IsPermutation, IsNonDecreasingBy}
use Rattle.mc_model.specs.declared.inst.InstRef.{InstRef}
use Rattle.mc_model.specs.declared.inst.InstRef.TheVariants.{Old, New}
use Rattle.mc_model.specs.declared.inst.Choice.{Choice}
use Rattle.mc_insts.specs.declared.define.InstDef.{InstDef}
use Rattle.mc_insts.specs.declared.define.InstDef.TheVariants as D
use Rattle.mc_insts.specs.declared.graph.Case.{Case}
use Rattle.mc_insts.specs.declared.graph.Node.{Node}
use Rattle.mc_insts.specs.declared.graph.Node.TheVariants as N
use Rattle.mc_insts.specs.code.Functors.{Functor, functor_named}
use Rattle.mc_insts.specs.code.Walks.{functor_at, node_at}
use Rattle.mc_insts.specs.Defining.{plain_definitions, bounds_of}

-- the node of an inst, by those of the definitions
abbrev pub inst_in : List ℕ → InstRef → ℕ
inst_in is (Old i) = i
inst_in is (New k) = get_or is k 0

-- a case is that of a constructor, whose functor is there
pub record IsCase (fs : List Functor) (is : List ℕ) (c : Choice) (d : Case) : Type 0 where
  pub within : d.functor < length fs
  pub functor : functor_at fs d.functor ≡ functor_named c.name c.arity
  pub args : d.args ≡ map (inst_in is) c.args

abbrev pub AreCases : List Functor → List ℕ → List Choice → List Case → Type 0
AreCases fs is cs ds =
    (length ds ≡ length cs) × ((k : ℕ) (c : Choice) (d : Case) → k < length cs → IsCase fs is (get_or cs k c) (get_or ds k d))

-- the cases are those of the constructors, in the order of their functors
pub record MakesCases (fs : List Functor) (is : List ℕ) (cs : List Choice) (ds : List Case) : Type 0 where
  pub as_written : List Case
  pub are : AreCases fs is cs as_written
  pub same : IsPermutation as_written ds
  pub ordered : IsNonDecreasingBy (λ (d : Case). d.functor) ds

-- the definition in a place makes the node that is numbered so
pub record MakesNode (fs : List Functor) (insts : List ℕ) (ds : List InstDef) (k : ℕ) (cs : List Choice) (node : Node) : Type 0 where
  pub within : k < length ds
  pub is_bound : get_or ds k (D.Bound cs) ≡ D.Bound cs
  pub cases : List Case
  pub is : node ≡ N.Bound cases
  pub made : MakesCases fs insts cs cases

-- the nodes are those that the first definitions make, as many as that
pub record MakesNodes (fs : List Functor) (is : List ℕ) (ds : List InstDef) (upto : ℕ) (ns : List Node) : Type 0 where
  pub count : length ns ≡ bounds_of (take upto (plain_definitions ds))
  -- each definition that lists constructors makes its node, and each node is made by one
  pub each :
      (k : ℕ) (cs : List Choice) → k < upto → get_or ds k (D.Bound cs) ≡ D.Bound cs
      → MakesNode fs is ds k cs (node_at ns (bounds_of (take k (plain_definitions ds))))
  pub back :
      (n : ℕ) → n < length ns → (k : ℕ) × ((cs : List Choice) × MakesNode fs is ds k cs (node_at ns n))
