use Rattle.std.proofs.Common.{◌≡◌, ◌++◌, drop}
use Rattle.mc_state_variables.specs.Versions.{renewed, renewed_behind, handed}
use Rattle.mc_state_variables.specs.code.Helds.{plain_helds}
use Rattle.mc_state_variables.proofs.numbering.Numbering.around.Given as goal

abbrev pub invariant-loop-state : goal.invariant-loop-state
invariant-loop-state l = record {
  given : plain_helds l.given.items ++ renewed l.fresh_names l.self.next (plain_helds (drop l.state-index l.held)) ≡ renewed l.fresh_names l.initial.self.next (plain_helds l.held);
  behind : plain_helds l.behind.items
      ++ handed l.updated (renewed l.fresh_names l.self.next (plain_helds (drop l.state-index l.held))) (plain_helds (drop l.state-index l.held))
      ≡ handed l.updated (renewed l.fresh_names l.initial.self.next (plain_helds l.held)) (plain_helds l.held);
  next : renewed_behind l.fresh_names l.self.next (plain_helds (drop l.state-index l.held)) ≡ renewed_behind l.fresh_names l.initial.self.next (plain_helds l.held);
}
