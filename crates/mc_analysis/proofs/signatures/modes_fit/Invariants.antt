use Rattle.std.proofs.Common.{◌↔◌, drop}
use Rattle.mc_mode_state.specs.Modes.{ModesFit}
use Rattle.mc_analysis.proofs.signatures.modes_fit.Given as goal

abbrev pub invariant-loop-mode : goal.invariant-loop-mode
invariant-loop-mode l = ModesFit l.count (drop l.mode-index l.modes) ↔ ModesFit l.count l.modes
