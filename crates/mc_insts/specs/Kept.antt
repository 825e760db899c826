-- Insts of a program. Nothing of it needs belief: it holds where insts were made for the program, and
-- each call keeps it.
use Rattle.std.specs.Prelude.{◌≡◌, ℕ, ◌≤◌, List, length}
use Rattle.mc_program.specs.Programs.{Source}
use Rattle.mc_accepted.specs.Fits.{FitsInsts}
use Rattle.mc_insts.specs.Programs.{FitsConstructors}
use Rattle.mc_insts.specs.Graphs.{graph_of}
use Rattle.mc_insts.specs.declared.insts.Insts.{Insts}
use Rattle.mc_insts.specs.declared.graph.Case.{Case}
use Rattle.mc_insts.specs.declared.graph.Node.TheVariants as N
use Rattle.mc_insts.specs.code.Walks.{scene, node_at, ProperCases}
use Rattle.mc_insts.specs.code.Shown.{Distinct}
use Rattle.mc_insts.specs.code.TypeRows.{terms}
use Rattle.mc_insts.specs.code.Tables.{ConstructorsAre, ShapesAre}
use Rattle.mc_insts.specs.code.Merges.{Builtins}
use Rattle.mc_insts.specs.code.Pairs.{PairsAre}

pub record AreOf (P : Source) (I : Insts) : Type 0 where
  pub fits : FitsConstructors P
  pub constructors : ConstructorsAre P I.graph.functors I.shapes.known I.symbols
  pub shapes : ShapesAre P I.symbols (terms I.types) I.shapes.rows
  pub fewer : length I.shapes.rows ≤ length (terms I.types)
  pub distinct : Distinct I.graph.functors
  pub nodes :
      (i : ℕ) (cs : List Case)
      → node_at I.graph.nodes i ≡ N.Bound cs
      → ProperCases (scene I.graph I.shapes) (length I.graph.nodes) cs
  pub builtins : Builtins I.graph.nodes
  -- the graph is one of insts: what else is asked of a program's insts
  pub insts : FitsInsts (graph_of I)
  pub pairs : PairsAre P I.graph (terms I.types) I.pairs
