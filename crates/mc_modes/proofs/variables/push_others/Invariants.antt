use Rattle.std.proofs.Common.{◌≡◌, ◌++◌, drop}
use Rattle.mc_model.specs.Lists.{without}
use Rattle.mc_modes.proofs.variables.push_others.Given as goal

abbrev pub invariant-loop-x : goal.invariant-loop-x
invariant-loop-x l =
    l.list.items ++ without (drop l.x-index l.vars) l.others ≡ l.fn.list.items ++ without l.vars l.others
