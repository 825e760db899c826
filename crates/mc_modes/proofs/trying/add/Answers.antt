use Rattle.mc_modes.proofs.trying.add.Goals as goal

pub add-requires-clause-fits : goal.add-requires-clause-fits
add-requires-clause-fits c = c.in_ok-procedure_fits.ensures.fits.0 (c.in_ok-self_check.ensures {u = tt})
