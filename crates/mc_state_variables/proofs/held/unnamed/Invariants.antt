use Rattle.std.proofs.Common.{◌≡◌, ◌++◌, drop}
use Rattle.mc_state_variables.specs.Versions.{unnamed}
use Rattle.mc_state_variables.specs.code.Helds.{plain_helds}
use Rattle.mc_state_variables.proofs.held.unnamed.Given as goal

abbrev pub invariant-loop-state : goal.invariant-loop-state
invariant-loop-state l =
    plain_helds l.rest.items ++ unnamed l.hidden (plain_helds (drop l.state-index l.held)) ≡ unnamed l.hidden (plain_helds l.held)
