use Rattle.std.proofs.Common.{◌≡◌, ◌-◌, ◌≤◌, ◌++◌}
use Rattle.mc_model.specs.Lists.{from}
use Rattle.mc_modes.proofs.places.push_between.Given as goal

abbrev pub invariant-loop-k : goal.invariant-loop-k
invariant-loop-k l = record {
  numbers : l.list.items ≡ l.fn.list.items ++ from l.first (l.k - l.first);
  from_first : l.first ≤ l.k;
  to_end : l.k ≤ l.end;
}
