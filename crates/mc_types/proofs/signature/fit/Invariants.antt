use Rattle.mc_types.specs.Holds.{InOrder}
use Rattle.mc_types.specs.Changes.{Grown}
use Rattle.mc_types.proofs.Fitting.{Fitting}
use Rattle.mc_types.proofs.signature.fit.Given as goal

abbrev pub invariant-loop-k : goal.invariant-loop-k
invariant-loop-k l = record {
  in_order : InOrder l.g.cells.items;
  grown : Grown l.fn.g.cells.items l.fn.g.changes.items l.g.cells.items l.g.changes.items;
  fitting : Fitting l.fn.g.cells.items l.g.cells.items l.signature.vars l.signature.types.items l.places l.k;
}
