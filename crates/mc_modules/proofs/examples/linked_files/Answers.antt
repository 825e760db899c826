use Rattle.std.proofs.Common.{refl}
use Rattle.mc_modules.proofs.examples.linked_files.Goals as goal

pub returns-clause-structure : goal.returns-clause-structure
returns-clause-structure c = (refl, refl, refl, refl, (λ e. cc))

pub returns-clause-modules : goal.returns-clause-modules
returns-clause-modules c = (refl, refl, refl, refl)

pub returns-clause-names : goal.returns-clause-names
returns-clause-names c = (refl, refl, refl, refl)

pub returns-clause-definitions : goal.returns-clause-definitions
returns-clause-definitions c = (refl, refl, refl, refl, refl)

pub returns-clause-predicates : goal.returns-clause-predicates
returns-clause-predicates c = (refl, refl, refl, refl)
