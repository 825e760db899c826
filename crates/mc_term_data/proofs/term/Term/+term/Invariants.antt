use Rattle.std.proofs.Common.{◌≤◌}
use Rattle.mc_term_data.specs.declared.term.Node.{size-Node}
use Rattle.mc_term_data.proofs.term.Term.+term.Given as goal

abbrev pub invariant-down : goal.invariant-down
invariant-down l = size-Node l.self.node ≤ size-Node l.initial.self.node
