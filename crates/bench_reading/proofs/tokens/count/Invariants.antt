use Rattle.std.proofs.Common.{◌≡◌, ◌+◌, ◌-◌, ◌≤◌, length}
use Rattle.bench_reading.proofs.tokens.count.Given as goal

abbrev pub invariant-loop-token : goal.invariant-loop-token
invariant-loop-token l = record {
  same : l.walk ≡ l.initial.walk;
  bound : l.place ≤ length l.walk;
  advance : l.counts.tokens + l.counts.faults ≤ l.place;
}

abbrev pub decreases-loop-token : goal.decreases-loop-token
decreases-loop-token l = length l.walk - l.place
