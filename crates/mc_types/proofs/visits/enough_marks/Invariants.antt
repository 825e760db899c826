use Rattle.std.proofs.Common.{◌-◌, length}
use Rattle.mc_types.specs.Founded.{AllPast}
use Rattle.mc_types.proofs.visits.enough_marks.Given as goal

abbrev pub invariant-loop-marks : goal.invariant-loop-marks
invariant-loop-marks l = AllPast l.round l.marks.items

abbrev pub decreases-loop-marks : goal.decreases-loop-marks
decreases-loop-marks l = length l.g.cells.items - length l.marks.items
