use Rattle.std.proofs.Common.{◌≡◌, ◌++◌, drop, map}
use Rattle.mc_term_data.specs.Plain.{plain_term}
use Rattle.mc_state_variables.specs.Versions.{closings}
use Rattle.mc_state_variables.specs.code.Helds.{plain_helds, listed}
use Rattle.mc_state_variables.proofs.held.closings.Given as goal

abbrev pub invariant-loop-state : goal.invariant-loop-state
invariant-loop-state l =
    map plain_term l.goals.items ++ listed (closings l.wanted l.updated l.line (plain_helds (drop l.state-index l.held)))
    ≡ listed (closings l.wanted l.updated l.line (plain_helds l.held))
