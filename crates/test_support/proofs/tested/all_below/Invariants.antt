use Rattle.std.proofs.Common.{ℕ, ◌<◌, get_or}
use Rattle.test_support.proofs.tested.all_below.Given as goal

abbrev pub invariant-loop-inst : goal.invariant-loop-inst
invariant-loop-inst l = (n : ℕ) → n < l.inst-index → get_or l.insts n 0 < l.count
