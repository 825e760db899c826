-- The graph that insts are. (Mercury Language Reference Manual: Modes, insts.)
use Rattle.std.specs.Prelude.{◌≡◌, ℕ, length}
use Rattle.mc_model.specs.Insts.{free, ground, unique, dead, Graph}
use Rattle.mc_insts.specs.declared.insts.Insts.{Insts}
use Rattle.mc_insts.specs.code.Shown.{plain_graph}

-- the nodes, by number, and how many there are
abbrev pub graph_of : Insts → Graph
graph_of I = plain_graph I.graph.functors I.graph.nodes

abbrev pub count_of : Insts → ℕ
count_of I = length I.graph.nodes

-- the builtin insts alone, under their numbers
pub record BuiltinAlone (I : Insts) : Type 0 where
  pub count : count_of I ≡ 4
  pub is_free : graph_of I 0 ≡ free
  pub is_ground : graph_of I 1 ≡ ground
  pub is_unique : graph_of I 2 ≡ unique
  pub is_dead : graph_of I 3 ≡ dead
