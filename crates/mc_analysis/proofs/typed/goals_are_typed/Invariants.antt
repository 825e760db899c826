use Rattle.std.proofs.Common.{ℕ, ◌<◌}
use Rattle.mc_analysis.specs.code.Tests.{PredIsTyped}
use Rattle.mc_analysis.proofs.typed.goals_are_typed.Given as goal

abbrev pub invariant-loop-pred : goal.invariant-loop-pred
invariant-loop-pred l = (p : ℕ) → p < l.pred → PredIsTyped l.program l.goals p
