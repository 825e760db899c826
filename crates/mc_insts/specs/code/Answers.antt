-- What the answer of a merge says.
use Rattle.std.specs.Prelude.{◌≡◌, ℕ, ◌<◌, List, length}
use Rattle.mc_program.specs.Programs.{TypeTerm, Source}
use Rattle.mc_model.specs.Insts.{free, dead, Graph}
use Rattle.mc_accepted.specs.Inclusion.{Tip, Path, Allows, AllFree, OneIsDead, LeastAbove}
use Rattle.mc_accepted.specs.Tidy.{Tidy, EachIsTidy}
use Rattle.mc_insts.specs.declared.graph.InstGraph.{InstGraph}
use Rattle.mc_insts.specs.declared.graph.Shapes.{Shapes}
use Rattle.mc_insts.specs.declared.graph.Node.{Node}
use Rattle.mc_insts.specs.declared.graph.Node.TheVariants as N
use Rattle.mc_insts.specs.code.Lists.{Extends}
use Rattle.mc_insts.specs.code.Walks.{Scene, scene, node_at, Below, Proper}
use Rattle.mc_insts.specs.code.Shown.{plain_graph, RowsAre}
use Rattle.mc_insts.specs.code.Steps.{same_of}
use Rattle.mc_insts.specs.code.Formed.{Formed}
use Rattle.mc_insts.specs.code.Merges.{Builtins}
use Rattle.mc_insts.specs.Merging.{LivesAbove, OneAllows}

-- both are neither free nor dead
pub record BothInner (M K : Node) : Type 0 where
  pub first_free : M ≡ N.Free → ⊥
  pub first_dead : M ≡ N.Dead → ⊥
  pub second_free : K ≡ N.Free → ⊥
  pub second_dead : K ≡ N.Dead → ⊥

-- no old node stands for both by itself: none is free or dead, and neither is below the other
pub record Unkept (C : Scene) (i j r : ℕ) : Type 0 where
  pub inner : BothInner (node_at C.nodes i) (node_at C.nodes j)
  pub not_first : Below C (same_of i j r) → ⊥
  pub not_second : Below C (same_of j i r) → ⊥

-- The inst stands for all of these: the parts by which it does so for lists that are put together.
pub record Gathers (P : Source) (G : Graph) (is : List ℕ) (k : ℕ) (t : TypeTerm) : Type 0 where
  pub least : LeastAbove P G is k t
  pub free_to : AllFree G is → G k ≡ free
  pub free_from : G k ≡ free → AllFree G is
  pub dead_to : OneIsDead G is → G k ≡ dead
  pub dead_from : G k ≡ dead → LivesAbove P G is t → OneIsDead G is
  pub dead_tidy : G k ≡ dead → EachIsTidy P G is t → OneIsDead G is
  pub tidy : EachIsTidy P G is t → Tidy P G k t
  pub exact :
      EachIsTidy P G is t → (path : Path) (e : Tip) → Allows P G path e k t → OneAllows P G is path e t

-- The inst k stands for all of these at a row, after the graph grew.
pub record IsMerge (before after : InstGraph) (shapes : Shapes) (is : List ℕ) (r k : ℕ) : Type 0 where
  pub older : Extends before.nodes after.nodes
  pub functors : after.functors ≡ before.functors
  pub proper : Proper (scene after shapes)
  pub builtins : Builtins after.nodes
  pub formed : Formed before.nodes → Formed after.nodes
  pub there : k < length after.nodes
  pub gathers :
      (P : Source) (type : ℕ → TypeTerm) → RowsAre P (scene after shapes) type
      → Gathers P (plain_graph after.functors after.nodes) is k (type r)
