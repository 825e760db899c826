use Rattle.std.proofs.Common.{◌≡◌, false, take}
use Rattle.mc_switch.specs.code.Ends.{one_ends}
use Rattle.mc_switch.proofs.merging.one_ends.Given as goal

abbrev pub invariant-loop-disjunct : goal.invariant-loop-disjunct
invariant-loop-disjunct l = one_ends (take l.disjunct-index l.disjuncts) ≡ false
