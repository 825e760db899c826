use Rattle.std.proofs.Common.{◌≡◌, ◌++◌, drop}
use Rattle.mc_clause_syntax.specs.States.{names_of}
use Rattle.mc_state_variables.specs.Updates.{common}
use Rattle.mc_state_variables.proofs.names.common.Given as goal

abbrev pub invariant-loop-name : goal.invariant-loop-name
invariant-loop-name l = names_of l.both.items ++ common (names_of (drop l.name-index l.names)) l.others ≡ common (names_of l.names) l.others
