use Rattle.std.proofs.Common.{◌≡◌, drop}
use Rattle.mc_model.specs.Lists.{is_in}
use Rattle.mc_mode_state.proofs.calls.has.Given as goal

abbrev pub invariant-loop-y : goal.invariant-loop-y
invariant-loop-y l = is_in l.x (drop l.y-index l.xs) ≡ is_in l.x l.xs
