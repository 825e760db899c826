use Rattle.std.proofs.Common.{◌≡◌, ℕ, ◌<◌, true, get_or}
use Rattle.mc_type_table.proofs.expansion.are_all_done.Given as goal

abbrev pub invariant-loop-is_done : goal.invariant-loop-is_done
invariant-loop-is_done l = (u : ℕ) → u < l.is_done-index → get_or l.done u true ≡ true
