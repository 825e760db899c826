use Rattle.std.proofs.Common.{arith}
use Rattle.mc_unresolved.specs.declared.steps.WalkStep.TheVariants as W
use Rattle.mc_typecheck.specs.Walked.{IsAt}
use Rattle.mc_typecheck.proofs.Steps.{taken_more, taken_whole}
use Rattle.mc_typecheck.proofs.walking.walked.Goals as goal

pub loop-step-init : goal.loop-step-init
loop-step-init c = λ P D shows. c.new-walk.ensures P D c.args.signatures.now

pub loop-step-preserved : goal.loop-step-preserved
loop-step-preserved c = taken_more (λ P D w s. IsAt P D c.args.signatures.now w s) c.args.signatures.now c.args.steps.now c.args.vars c.loop-step.step-index (W.Variable 0) c.loop-step.walk c.take_step.new.walk c.loop-step-test.true c.in_ok-take_step.ensures c.loop-step.invariant

pub returns : goal.returns
returns c = λ P D shows. taken_whole (λ P D w s. IsAt P D c.args.signatures.now w s) c.args.signatures.now c.args.steps.now c.args.vars c.loop-step.step-index c.loop-step.walk P D (omega (arith, c.loop-step-test.false, c.loop-step.auto.step-index-end)) c.loop-step.invariant shows
