use Rattle.std.proofs.Common.{sym, ◌∙◌}
use Rattle.mc_unresolved.specs.declared.steps.WalkStep.TheVariants as W
use Rattle.mc_typecheck.proofs.WhatFits.{rest_fits, fits_more, fits_not, fits_all}
use Rattle.mc_typecheck.proofs.fitting.all_fit.Goals as goal

pub loop-step-preserved : goal.loop-step-preserved
loop-step-preserved c = fits_more c.args.signatures.now c.args.names c.args.steps.now c.loop-step.step-index (W.Variable 0) (rest_fits c.args.signatures.now c.args.names c.args.steps.now 0) c.loop-step-test.true (sym c.fits_step.ensures ∙ c.if-not-fits_step.false) c.loop-step.invariant

pub returns-then-not-fits_step : goal.returns-then-not-fits_step
returns-then-not-fits_step c = fits_not c.args.signatures.now c.args.names c.args.steps.now c.loop-step.step-index (W.Variable 0) (rest_fits c.args.signatures.now c.args.names c.args.steps.now 0) c.loop-step-test.true (sym c.fits_step.ensures ∙ c.if-not-fits_step.true) c.loop-step.invariant

pub returns : goal.returns
returns c = fits_all c.args.signatures.now c.args.names c.args.steps.now c.loop-step.step-index (rest_fits c.args.signatures.now c.args.names c.args.steps.now 0) c.loop-step-test.false c.loop-step.invariant
