use Rattle.std.proofs.Common.{◌≡◌, ℕ, ◌<◌}
use Rattle.mc_names.specs.Linked.{plain_names}
use Rattle.mc_type_table.specs.Visibility.{definitions_seen}
use Rattle.mc_type_phase.proofs.alike.see_alike.Given as goal

abbrev pub invariant-loop-number : goal.invariant-loop-number
invariant-loop-number l =
    (u : ℕ) → u < l.number
    → definitions_seen (plain_names l.names) l.own u
    ≡ definitions_seen (plain_names l.names) l.other u
