use Rattle.std.proofs.Common.{◌≡◌, map, take, not, Some}
use Rattle.mc_names.specs.Linked.{plain_named, plain_names}
use Rattle.mc_type_table.specs.Visibility.{sees}
use Rattle.mc_type_table.proofs.visibility.hidden_from.Given as goal

abbrev pub invariant-loop-named : goal.invariant-loop-named
invariant-loop-named l =
    l.hidden.items
    ≡ map (λ n. not (sees (plain_names l.names) l.own (Some (plain_named n))))
    (take l.named-index l.names.types)
