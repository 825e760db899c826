use Rattle.std.proofs.Common.{◌≡◌, ◌++◌, drop}
use Rattle.mc_names.specs.Linked.{plain_names}
use Rattle.mc_names.specs.code.Chosen.{chosen, type_seen}
use Rattle.mc_names.proofs.names.Names.put_seen.Given as goal

abbrev pub invariant-loop-found : goal.invariant-loop-found
invariant-loop-found l =
    l.all.items ++ chosen (type_seen (plain_names l.self) l.own l.number) (plain_names l.self).types (drop l.found-index l.types)
    ≡ l.fn.all.items ++ chosen (type_seen (plain_names l.self) l.own l.number) (plain_names l.self).types l.types
