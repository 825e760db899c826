use Rattle.std.proofs.Common.{◌≡◌, ℕ, ◌<◌, true}
use Rattle.mc_varset.specs.Members.{has}
use Rattle.mc_varset.proofs.var_set.VarSet.is_subset.Given as goal

abbrev pub invariant-loop-v : goal.invariant-loop-v
invariant-loop-v l = (n : ℕ) → n < l.v → has l.self n ≡ true → has l.other n ≡ true
