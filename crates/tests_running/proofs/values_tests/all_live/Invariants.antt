use Rattle.std.proofs.Common.{◌≡◌, length, All}
use Rattle.mc_values.specs.Heap.{IsLive}
use Rattle.tests_running.proofs.values_tests.all_live.Given as goal

abbrev pub invariant-loop-r : goal.invariant-loop-r
invariant-loop-r g l = (length l.row ≡ l.r-index) × All (IsLive l.heap) l.row
