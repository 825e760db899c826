use Rattle.std.proofs.Common.{◌+◌, ◌-◌, ◌*◌, ◌≤◌, length}
use Rattle.mc_term_parser.proofs.arguments.flat_count.Given as goal

abbrev pub invariant-loop-behind : goal.invariant-loop-behind
invariant-loop-behind l = l.count ≤ l.behind

abbrev pub decreases-loop-behind : goal.decreases-loop-behind
decreases-loop-behind l = length l.tokens + 1 - l.behind
