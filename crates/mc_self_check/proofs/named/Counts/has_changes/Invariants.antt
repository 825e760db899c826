use Rattle.std.proofs.Common.{◌↔◌, drop}
use Rattle.mc_procs.specs.Named.{ChangesNamed}
use Rattle.mc_self_check.specs.code.Names.{bounds}
use Rattle.mc_self_check.proofs.named.Counts.has_changes.Given as goal

abbrev pub invariant-loop-variable : goal.invariant-loop-variable
invariant-loop-variable l =
    ChangesNamed (bounds l.self) (drop l.variable-index l.changes) ↔ ChangesNamed (bounds l.self) l.changes
