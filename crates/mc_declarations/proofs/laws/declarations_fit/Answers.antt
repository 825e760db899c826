use Rattle.mc_declarations.proofs.Fitting.{declarations_fit, all_declarations_fit}
use Rattle.mc_declarations.proofs.laws.declarations_fit.Goals as goal

pub returns-clause-seen : goal.returns-clause-seen
returns-clause-seen c = declarations_fit

pub returns-clause-all : goal.returns-clause-all
returns-clause-all c = all_declarations_fit
