use Rattle.mc_types.specs.code.RootTable.{AreRoots}
use Rattle.mc_types.proofs.type_search_written.all_roots.Given as goal

abbrev pub invariant-loop-at : goal.invariant-loop-at
invariant-loop-at l = AreRoots l.g.cells.items l.at l.roots.items
