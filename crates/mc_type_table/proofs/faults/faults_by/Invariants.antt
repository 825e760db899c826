use Rattle.std.proofs.Common.{◌≡◌, ◌++◌, drop}
use Rattle.mc_names.specs.Linked.{plain_names}
use Rattle.mc_type_table.specs.Rules.{type_faults}
use Rattle.mc_type_table.proofs.Judging.{faults_from}
use Rattle.mc_type_table.proofs.faults.faults_by.Given as goal

abbrev pub invariant-loop-named : goal.invariant-loop-named
invariant-loop-named l =
    (l.number ≡ l.named-index)
    × (l.broken.items
    ++ faults_from (plain_names l.names) l.number (drop l.named-index l.names.types)
    ≡ type_faults (plain_names l.names))
