use Rattle.std.proofs.Common.{◌≡◌, drop}
use Rattle.mc_state_variables.specs.Versions.{after_of}
use Rattle.mc_state_variables.specs.code.Helds.{plain_helds}
use Rattle.mc_state_variables.proofs.held.after_of.Given as goal

abbrev pub invariant-loop-state : goal.invariant-loop-state
invariant-loop-state l = after_of l.name (plain_helds (drop l.state-index l.held)) ≡ after_of l.name (plain_helds l.held)
