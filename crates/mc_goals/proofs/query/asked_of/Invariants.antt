use Rattle.std.proofs.Common.{◌≡◌, [], ◌++◌, get_or, drop}
use Rattle.mc_accepted.specs.NormalTypes as query
use Rattle.mc_goals.proofs.query.asked_of.Given as goal

abbrev pub invariant-loop-variable : goal.invariant-loop-variable
invariant-loop-variable l =
    l.asked.items ++ query.asked_of (λ v. get_or l.names v []) (drop l.variable-index l.variables) ≡ query.asked_of (λ v. get_or l.names v []) l.variables
