use Rattle.std.proofs.Common.{◌≡◌, drop}
use Rattle.mc_clause_syntax.specs.States.{in_scope}
use Rattle.mc_clause_syntax.specs.code.Scopes.{all_names}
use Rattle.mc_clause_syntax.proofs.scope.Scope.has.Given as goal

abbrev pub invariant-loop-set : goal.invariant-loop-set
invariant-loop-set l = in_scope (all_names (drop l.set-index l.self.sets.items)) l.name ≡ in_scope (all_names l.self.sets.items) l.name
