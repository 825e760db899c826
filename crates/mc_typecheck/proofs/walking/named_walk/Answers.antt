use Rattle.std.proofs.Common.{arith}
use Rattle.mc_unresolved.specs.declared.steps.WalkStep.TheVariants as W
use Rattle.mc_typecheck.specs.NamedWalks.{IsNamedAt}
use Rattle.mc_typecheck.proofs.Steps.{taken_more, taken_whole}
use Rattle.mc_typecheck.proofs.walking.named_walk.Goals as goal

pub loop-step-init : goal.loop-step-init
loop-step-init c = λ P D shows. c.in_ok-walk.ensures P D

pub loop-step-preserved : goal.loop-step-preserved
loop-step-preserved c = taken_more (λ P D w s. IsNamedAt P D w s) c.args.signatures.now c.args.steps.now c.args.vars c.loop-step.step-index (W.Variable 0) c.loop-step.walk c.name_step.new.walk c.loop-step-test.true (c.in_ok-name_step.ensures c.if-not-branch.false) c.loop-step.invariant

pub returns : goal.returns
returns c = λ P D shows. taken_whole (λ P D w s. IsNamedAt P D w s) c.args.signatures.now c.args.steps.now c.args.vars c.loop-step.step-index c.loop-step.walk P D (omega (arith, c.loop-step-test.false, c.loop-step.auto.step-index-end)) c.loop-step.invariant shows
