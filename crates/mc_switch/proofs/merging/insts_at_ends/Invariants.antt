use Rattle.std.proofs.Common.{◌≡◌, ◌++◌, drop}
use Rattle.mc_switch.specs.code.Ends.{insts_at_ends}
use Rattle.mc_switch.proofs.merging.insts_at_ends.Given as goal

abbrev pub invariant-loop-disjunct : goal.invariant-loop-disjunct
invariant-loop-disjunct l =
    l.insts.items ++ insts_at_ends l.from l.x (drop l.disjunct-index l.disjuncts) ≡ insts_at_ends l.from l.x l.disjuncts
