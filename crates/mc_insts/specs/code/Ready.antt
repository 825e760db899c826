-- Insts between two merges at a type.
use Rattle.std.specs.Prelude.{◌≡◌}
use Rattle.mc_program.specs.Programs.{Source}
use Rattle.mc_insts.specs.declared.insts.Insts.{Insts}
use Rattle.mc_insts.specs.code.Lists.{Extends}
use Rattle.mc_insts.specs.code.Walks.{scene, Proper}
use Rattle.mc_insts.specs.code.Shown.{RowsAre}
use Rattle.mc_insts.specs.code.TypeRows.{terms, term_at}
use Rattle.mc_insts.specs.Kept.{AreOf}

-- all rows of types that a walk can meet are there
pub record Ready (P : Source) (I : Insts) : Type 0 where
  pub of : AreOf P I
  pub proper : Proper (scene I.graph I.shapes)
  pub rows : RowsAre P (scene I.graph I.shapes) (term_at (terms I.types))

-- nodes were added, and pairs noted
pub record Onward (before after : Insts) : Type 0 where
  pub older : Extends before.graph.nodes after.graph.nodes
  pub functors : after.graph.functors ≡ before.graph.functors
  pub symbols : after.symbols ≡ before.symbols
  pub types : after.types ≡ before.types
  pub shapes : after.shapes ≡ before.shapes
