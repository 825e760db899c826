use Rattle.std.proofs.Common.{◌≡◌}
use Rattle.mc_typecheck.proofs.WhatFits.{rest_fits}
use Rattle.mc_typecheck.proofs.fitting.all_fit.Given as goal

abbrev pub invariant-loop-step : goal.invariant-loop-step
invariant-loop-step l = rest_fits l.signatures l.names l.steps l.step-index ≡ rest_fits l.signatures l.names l.steps 0
