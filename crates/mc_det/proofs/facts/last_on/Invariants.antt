use Rattle.std.proofs.Common.{◌≡◌, ◌≤◌, length, drop, None}
use Rattle.mc_det.specs.code.Facts.{known_in}
use Rattle.mc_det.proofs.facts.last_on.Given as goal

abbrev pub invariant-loop-n : goal.invariant-loop-n
invariant-loop-n l = record {
  left : l.n ≤ length l.facts;
  none : known_in (drop l.n l.facts) l.x ≡ None;
}

abbrev pub decreases-loop-n : goal.decreases-loop-n
decreases-loop-n l = l.n
