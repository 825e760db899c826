use Rattle.mc_insts.specs.code.Walks.{scene, Fresh}
use Rattle.mc_insts.specs.code.Lists.{Extends}
use Rattle.mc_insts.specs.code.TidyWalks.{SeenCases}
use Rattle.mc_insts.proofs.graph.InstGraph.look_at_cases.Given as goal

abbrev pub invariant-loop-case : goal.invariant-loop-case
invariant-loop-case l = record {
  extends : Extends l.initial.seen l.seen;
  fresh : Fresh (scene l.self l.shapes) l.t l.initial.seen l.seen;
  seen : SeenCases (scene l.self l.shapes) l.seen l.t l.cases l.case-index;
}
