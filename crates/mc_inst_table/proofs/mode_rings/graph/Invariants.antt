use Rattle.std.proofs.Common.{◌≡◌, map, take, Some}
use Rattle.mc_names.specs.Linked.{plain_named, plain_names}
use Rattle.mc_inst_table.specs.Rules.{mode_named_of}
use Rattle.mc_inst_table.specs.code.Leading.{one_or_none}
use Rattle.mc_inst_table.proofs.mode_rings.graph.Given as goal

abbrev pub invariant-loop-named : goal.invariant-loop-named
invariant-loop-named l =
    l.rows.items
    ≡ map (λ n. one_or_none (mode_named_of (plain_names l.names) (Some (plain_named n))))
    (take l.named-index l.names.modes)
