use Rattle.std.proofs.Common.{◌<◌, ◌≤◌, ℕ, slice_index_or}
use Rattle.mc_inst_table.specs.code.Places.{width_at}
use Rattle.mc_inst_table.proofs.others.are_narrow.Given as goal

abbrev pub invariant-loop-k : goal.invariant-loop-k
invariant-loop-k l = (d : ℕ) → d < l.k → slice_index_or l.needs d 0 ≤ width_at l.widths d
