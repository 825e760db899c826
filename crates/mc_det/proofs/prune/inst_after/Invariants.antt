use Rattle.std.proofs.Common.{◌≡◌, drop}
use Rattle.mc_accepted.specs.Ordered.{change_at}
use Rattle.mc_det.proofs.prune.inst_after.Given as goal

abbrev pub invariant-loop-change : goal.invariant-loop-change
invariant-loop-change l =
    change_at l.x (drop l.change-index l.changes) l.before ≡ change_at l.x l.changes l.before
