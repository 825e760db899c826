use Rattle.std.proofs.Common.{ℕ, ◌<◌}
use Rattle.mc_self_check.proofs.Distinct.{ArityFits}
use Rattle.mc_self_check.proofs.constructors.arities_fit.Given as goal

abbrev pub invariant-loop-symbol : goal.invariant-loop-symbol
invariant-loop-symbol l = (s : ℕ) → s < l.symbol-index → ArityFits l.symbols s
