use Rattle.std.proofs.Common.{◌↔◌, drop}
use Rattle.mc_analysis.specs.code.Committed.{ModesHaveMany}
use Rattle.mc_analysis.proofs.determinisms.modes_have_many.Given as goal

abbrev pub invariant-loop-mode : goal.invariant-loop-mode
invariant-loop-mode l = ModesHaveMany (drop l.mode-index l.modes) ↔ ModesHaveMany l.modes
