use Rattle.std.proofs.Common.{◌≡◌, vec_len}
use Rattle.mc_det.specs.code.Points.{undone}
use Rattle.mc_det.proofs.point.Point.undo_all.Given as goal

abbrev pub invariant-loop-change : goal.invariant-loop-change
invariant-loop-change l = undone l.found.items l.self ≡ undone l.fn.found.items l.fn.self

abbrev pub decreases-loop-change : goal.decreases-loop-change
decreases-loop-change l = vec_len l.found
