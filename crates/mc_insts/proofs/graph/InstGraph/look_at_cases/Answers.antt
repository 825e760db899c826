use Rattle.mc_insts.specs.code.Walks.{scene}
use Rattle.mc_insts.proofs.Growth.{extends_on}
use Rattle.mc_insts.proofs.Steps.{fresh_on}
use Rattle.mc_insts.proofs.TidyWalks.{seen_cases_more}
use Rattle.mc_insts.proofs.graph.InstGraph.look_at_cases.Goals as goal

pub loop-case-preserved : goal.loop-case-preserved
loop-case-preserved c =
    let C = scene c.args.self.now c.args.shapes.now in
    record {
      extends = extends_on _ _ _ c.loop-case.invariant.extends c.look_at_case.ensures.extends;
      fresh = fresh_on C c.args.t _ _ _ c.look_at_case.ensures.extends c.loop-case.invariant.fresh c.in_ok-look_at_case.ensures.fresh;
      seen = seen_cases_more C c.args.t c.args.cases.now c.loop-case.case-index c.case-item.result _ _ c.look_at_case.ensures.extends c.loop-case-test.true c.case-item.is c.loop-case.invariant.seen c.in_ok-look_at_case.ensures.seen;
    }
