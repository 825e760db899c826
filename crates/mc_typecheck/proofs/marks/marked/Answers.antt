use Rattle.mc_unresolved.specs.declared.steps.WalkStep.TheVariants as W
use Rattle.mc_typecheck.proofs.Marking.{marks_more, marks_whole}
use Rattle.mc_typecheck.proofs.marks.marked.Goals as goal

pub loop-step-preserved : goal.loop-step-preserved
loop-step-preserved c = marks_more c.args.steps.now c.args.vars c.loop-step.step-index (W.Variable 0) c.loop-step.marks c.take_step.new.self c.loop-step-test.true c.in_ok-take_step.ensures c.loop-step.invariant

pub returns : goal.returns
returns c = marks_whole c.args.steps.now c.args.vars c.loop-step.step-index c.loop-step.marks c.loop-step-test.false c.loop-step.invariant
