use Rattle.std.proofs.Common.{drop, ◌↔◌}
use Rattle.mc_outside.specs.Named.{HaveDistinctNames}
use Rattle.mc_outside.proofs.memory.MemFiles.are_distinct.Given as goal

abbrev pub invariant-loop-at : goal.invariant-loop-at
invariant-loop-at l = HaveDistinctNames (drop l.at l.files) ↔ HaveDistinctNames l.files
