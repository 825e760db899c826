use Rattle.std.proofs.Common.{◌≡◌, ℕ, ◌<◌, ◌≤◌, length, ◌&&◌, not}
use Rattle.mc_varset.specs.Members.{has}
use Rattle.mc_varset.proofs.var_set.VarSet.minus.Given as goal

abbrev pub invariant-loop-v : goal.invariant-loop-v
invariant-loop-v l = record {
  bound : length l.self-inside.members.items ≡ length l.other;
  done : (n : ℕ) → n < l.v → has l.self-inside.members.items n ≡ (has l.initial.self-inside.members.items n && not (has l.other n));
  rest : (n : ℕ) → l.v ≤ n → has l.self-inside.members.items n ≡ has l.initial.self-inside.members.items n;
}
