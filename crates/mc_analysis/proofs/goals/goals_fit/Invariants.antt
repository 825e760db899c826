use Rattle.std.proofs.Common.{ℕ, ◌<◌}
use Rattle.mc_analysis.specs.code.Tests.{PredFits}
use Rattle.mc_analysis.proofs.goals.goals_fit.Given as goal

abbrev pub invariant-loop-pred : goal.invariant-loop-pred
invariant-loop-pred l = (p : ℕ) → p < l.pred → PredFits l.procs l.sigs l.goals p
