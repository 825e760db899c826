use Rattle.std.proofs.Common.{refl}
use Rattle.mc_unresolved.specs.declared.steps.WalkStep.TheVariants as W
use Rattle.mc_typecheck.proofs.Picked.{picks_first, picks_more, picks_whole}
use Rattle.mc_typecheck.proofs.picking.picked.Goals as goal

pub loop-step-init : goal.loop-step-init
loop-step-init c = picks_first c.args.signatures.now c.args.steps.now c.args.choices.now (record { choices = c.args.choices; height = 0; picks = c.in_ok-picks.picks }) refl c.in_ok-picks.ensures.items refl

pub loop-step-preserved : goal.loop-step-preserved
loop-step-preserved c = picks_more c.args.signatures.now c.args.steps.now c.args.choices.now c.loop-step.step-index (W.Variable 0) c.loop-step.picking c.take.new.self c.loop-step-test.true c.in_ok-take.ensures c.loop-step.invariant

pub returns : goal.returns
returns c = λ P D vars shows. picks_whole c.args.signatures.now c.args.steps.now c.args.choices.now c.loop-step.step-index c.loop-step.picking P D vars c.loop-step-test.false c.loop-step.invariant shows
