use Rattle.mc_analysis.proofs.rules.check_fits.Goals as goal

pub returns : goal.returns
returns c = (
  c.types_fit.ensures.0 (c.in_ok-self_check.ensures {u = tt}),
  c.in_ok-constructors_fit.ensures.0 (c.in_ok-self_check-2.ensures {u = tt}),
  c.library_fits.ensures.0 (c.in_ok-self_check-3.ensures {u = tt}),
)
