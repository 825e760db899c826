use Rattle.std.proofs.Common.{drop, map}
use Rattle.mc_program.specs.PlainPrograms.{plain_type, type_terms}
use Rattle.mc_types.specs.Holds.{InOrder}
use Rattle.mc_types.specs.Changes.{Grown}
use Rattle.mc_types.specs.Placed.{Apart}
use Rattle.mc_types.proofs.AddedTypes.{Adding}
use Rattle.mc_types.proofs.types.+add_type.Given as goal

abbrev pub invariant-loop-arg : goal.invariant-loop-arg
invariant-loop-arg l = record {
  in_order : InOrder l.g.cells.items;
  grown : Grown l.fn.g.cells.items l.fn.g.changes.items l.g.cells.items l.g.changes.items;
  apart : Apart l.count l.fn.g.cells.items → Apart l.count l.g.cells.items;
  adding : Adding l.fn.g.cells.items l.g.cells.items l.base l.count (plain_type l.ty) (type_terms (map plain_type (drop l.arg-index l.args))) l.node;
}
