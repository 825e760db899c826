use Rattle.std.proofs.Common.{◌≡◌, ◌≤◌, take, count_by}
use Rattle.mc_varset.proofs.var_set.VarSet.count.Given as goal

abbrev pub invariant-loop-member : goal.invariant-loop-member
invariant-loop-member l = record {
  counted : l.count ≡ count_by (λ member. member) (take l.member-index l.self);
  small : l.count ≤ l.member-index;
}
