use Rattle.std.proofs.Common.{ℕ, ◌<◌, get_or}
use Rattle.mc_plain.proofs.calls.room.Given as goal

abbrev pub invariant-loop-variable : goal.invariant-loop-variable
invariant-loop-variable l = (k : ℕ) → k < l.variable-index → get_or l.variables k 0 < l.room
