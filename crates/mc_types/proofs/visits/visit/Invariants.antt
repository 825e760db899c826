use Rattle.std.proofs.Common.{◌+◌, ◌*◌, length}
use Rattle.mc_types.proofs.Visiting.{Walk, left_over}
use Rattle.mc_types.proofs.visits.visit.Given as goal

abbrev pub invariant-loop-path : goal.invariant-loop-path
invariant-loop-path l = Walk l.round l.g.cells.items l.fn.marks l.marks l.path.items l.start

abbrev pub decreases-loop-path : goal.decreases-loop-path
decreases-loop-path l = 2 * left_over l.round l.marks + length l.path.items
