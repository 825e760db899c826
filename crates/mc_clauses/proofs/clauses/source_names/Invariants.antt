use Rattle.std.proofs.Common.{◌≡◌, map, take}
use Rattle.mc_clauses.specs.Unresolved.{source_name}
use Rattle.mc_clauses.proofs.clauses.source_names.Given as goal

abbrev pub invariant-loop-name : goal.invariant-loop-name
invariant-loop-name l = l.made.items ≡ map (λ name. source_name name.now) (take l.name-index l.names)
