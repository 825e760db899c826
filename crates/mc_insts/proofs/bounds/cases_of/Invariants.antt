use Rattle.std.proofs.Common.{take}
use Rattle.mc_insts.specs.code.Bounds.{AreCases}
use Rattle.mc_insts.specs.code.Lists.{Extends}
use Rattle.mc_insts.specs.code.Shown.{Distinct}
use Rattle.mc_insts.proofs.bounds.cases_of.Given as goal

abbrev pub invariant-loop-choice : goal.invariant-loop-choice
invariant-loop-choice l = record {
  extends : Extends l.fn.functors l.functors;
  distinct : Distinct l.fn.functors → Distinct l.functors;
  cases : AreCases l.functors l.insts (take l.choice-index l.choices) l.cases.items;
}
