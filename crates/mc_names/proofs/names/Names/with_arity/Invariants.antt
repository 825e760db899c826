use Rattle.std.proofs.Common.{◌≡◌, ◌++◌, nat_eq, drop}
use Rattle.mc_names.specs.code.Chosen.{chosen}
use Rattle.mc_names.proofs.names.Names.with_arity.Given as goal

abbrev pub invariant-loop-found : goal.invariant-loop-found
invariant-loop-found l = l.all.items ++ chosen (λ d. nat_eq d.name.arity l.arity) l.self.types (drop l.found-index l.types) ≡ chosen (λ d. nat_eq d.name.arity l.arity) l.self.types l.types
