use Rattle.std.proofs.Common.{◌-◌, ◌≤◌, ◌<◌}
use Rattle.mc_tokens.proofs.numbers.large_end.Given as goal

abbrev pub invariant-loop-last : goal.invariant-loop-last
invariant-loop-last l = record {
  above : l.start ≤ l.last;
  below : l.last < l.end;
}

abbrev pub decreases-loop-last : goal.decreases-loop-last
decreases-loop-last l = l.end - l.last
