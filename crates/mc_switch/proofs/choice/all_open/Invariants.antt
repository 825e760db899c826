use Rattle.std.proofs.Common.{◌≡◌, true, take}
use Rattle.std.specs.List.{list_all}
use Rattle.mc_switch.specs.code.Labels.{is_opened_by}
use Rattle.mc_switch.proofs.choice.all_open.Given as goal

abbrev pub invariant-loop-disjunct : goal.invariant-loop-disjunct
invariant-loop-disjunct l = list_all (is_opened_by l.x) (take l.disjunct-index l.disjuncts) ≡ true
