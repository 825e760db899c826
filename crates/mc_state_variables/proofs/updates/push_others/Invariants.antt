use Rattle.std.proofs.Common.{◌≡◌, ◌++◌, drop}
use Rattle.mc_clause_syntax.specs.States.{names_of}
use Rattle.mc_state_variables.specs.Updates.{leave_out}
use Rattle.mc_state_variables.proofs.updates.push_others.Given as goal

abbrev pub invariant-loop-name : goal.invariant-loop-name
invariant-loop-name l =
    names_of l.names.items ++ leave_out l.hidden (names_of (drop l.name-index l.inner)) ≡ names_of l.initial.names.items ++ leave_out l.hidden (names_of l.inner)
