use Rattle.mc_types.specs.Writing.{AllStand}
use Rattle.mc_types.proofs.type_search_written.write_types.Given as goal

abbrev pub invariant-loop-at : goal.invariant-loop-at
invariant-loop-at l = AllStand l.g.cells.items l.at l.types.items
