use Rattle.mc_insts.specs.code.Walks.{scene}
use Rattle.mc_insts.proofs.Growth.{extends_on}
use Rattle.mc_insts.proofs.Steps.{fresh_on, cases_more}
use Rattle.mc_insts.proofs.graph.InstGraph.step_cases.Goals as goal

pub loop-case-preserved : goal.loop-case-preserved
loop-case-preserved c =
    let C = scene c.args.self.now c.args.shapes.now in
    record {
      extends = extends_on _ _ _ c.loop-case.invariant.extends c.step_case.ensures.extends;
      fresh = fresh_on C c.args.t _ _ _ c.step_case.ensures.extends c.loop-case.invariant.fresh c.in_ok-step_case.ensures.fresh;
      passed = cases_more C c.args.t c.args.cases.now c.loop-case.case-index c.case-item.result _ _ c.step_case.ensures.extends c.loop-case-test.true c.case-item.is c.loop-case.invariant.passed (c.in_ok-step_case.ensures.passed c.if-not-branch.false);
    }
