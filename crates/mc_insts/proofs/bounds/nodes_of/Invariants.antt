use Rattle.mc_insts.specs.code.Bounds.{MakesNodes}
use Rattle.mc_insts.specs.code.Lists.{Extends}
use Rattle.mc_insts.specs.code.Shown.{Distinct}
use Rattle.mc_insts.proofs.bounds.nodes_of.Given as goal

abbrev pub invariant-loop-def : goal.invariant-loop-def
invariant-loop-def l = record {
  extends : Extends l.fn.functors l.functors;
  distinct : Distinct l.fn.functors → Distinct l.functors;
  nodes : MakesNodes l.functors l.insts l.listed l.def-index l.nodes.items;
}
