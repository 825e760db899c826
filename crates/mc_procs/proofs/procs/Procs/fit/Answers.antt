use Rattle.std.proofs.Common.{subst}
use Rattle.mc_procs.specs.Fitting.{AllFit}
use Rattle.mc_procs.proofs.Fits.{system_fits}
use Rattle.mc_procs.proofs.procs.Procs.fit.Goals as goal

pub returns-clause-system : goal.returns-clause-system
returns-clause-system c = system_fits c.args.self.now (subst AllFit c.self.view_is c.self.invariant)
