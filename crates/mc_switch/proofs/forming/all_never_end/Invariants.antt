use Rattle.std.proofs.Common.{◌≡◌, true, take}
use Rattle.std.specs.List.{list_all}
use Rattle.mc_switch.specs.declared.formed.Formed.{Formed}
use Rattle.mc_switch.proofs.forming.all_never_end.Given as goal

abbrev pub invariant-loop-goal : goal.invariant-loop-goal
invariant-loop-goal l = list_all (λ (f : Formed). f.never_ends) (take l.goal-index l.goals) ≡ true
