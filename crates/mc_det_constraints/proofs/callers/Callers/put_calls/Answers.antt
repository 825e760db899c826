use Rattle.std.proofs.Common.{List, take, sym, subst}
use Rattle.std.proofs.lemmas.List.{take_more}
use Rattle.mc_det_constraints.specs.declared.constraint.Step.{Step}
use Rattle.mc_det_constraints.specs.code.Callers.{PutCalls}
use Rattle.mc_det_constraints.proofs.Calling.{step_more}
use Rattle.mc_det_constraints.proofs.callers.Callers.put_calls.Goals as goal

pub loop-step-preserved : goal.loop-step-preserved
loop-step-preserved c =
    subst (λ (l : List Step). PutCalls c.args.p l c.args.self.now c.put_step.new.self)
    (sym (take_more c.args.steps.now c.loop-step.step-index _ c.loop-step-test.true))
    (step_more c.args.p (take c.loop-step.step-index c.args.steps.now) _ c.args.self.now c.loop-step.self c.put_step.new.self c.loop-step.invariant c.in_ok-put_step.ensures)
