use Rattle.std.proofs.Common.{◌≡◌, ◌++◌, drop}
use Rattle.mc_clause_syntax.specs.States.{names_of}
use Rattle.mc_state_variables.specs.Versions.{begun, behind}
use Rattle.mc_state_variables.specs.code.Helds.{plain_helds}
use Rattle.mc_state_variables.proofs.numbering.Numbering.begin.Given as goal

abbrev pub invariant-loop-name : goal.invariant-loop-name
invariant-loop-name l = record {
  held : plain_helds l.inside.items ++ begun l.self.next (names_of (drop l.name-index l.names)) ≡ plain_helds l.initial.inside.items ++ begun l.initial.self.next (names_of l.names);
  next : behind l.self.next (names_of (drop l.name-index l.names)) ≡ behind l.initial.self.next (names_of l.names);
}
