use Rattle.std.proofs.Common.{◌↔◌, drop}
use Rattle.mc_analysis.specs.code.Tests.{FitsEach}
use Rattle.mc_analysis.proofs.goals.fits_each.Given as goal

abbrev pub invariant-loop-mode : goal.invariant-loop-mode
invariant-loop-mode l = FitsEach l.procs l.goal (drop l.mode-index l.modes) ↔ FitsEach l.procs l.goal l.modes
