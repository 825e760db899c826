use Rattle.std.proofs.Common.{[], List, take, sym, ap, ◌∙◌}
use Rattle.std.proofs.lemmas.List.{take_more}
use Rattle.mc_det_constraints.specs.declared.constraint.Step.{Step}
use Rattle.mc_det_constraints.specs.Skeletons.{after_step, after_steps}
use Rattle.mc_det_constraints.specs.Least.{assigned}
use Rattle.mc_det_constraints.proofs.Laws.{after_more}
use Rattle.mc_det_constraints.proofs.constraint.value.Goals as goal

pub loop-step-preserved : goal.loop-step-preserved
loop-step-preserved c =
    c.in_ok-do_step.ensures
    ∙ ap (after_step (assigned c.args.dets.now) _) c.loop-step.invariant
    ∙ sym (after_more (assigned c.args.dets.now) (take c.loop-step.step-index c.args.steps.now) _ [])
    ∙ ap (λ (l : List Step). after_steps (assigned c.args.dets.now) l []) (sym (take_more c.args.steps.now c.loop-step.step-index _ c.loop-step-test.true))
