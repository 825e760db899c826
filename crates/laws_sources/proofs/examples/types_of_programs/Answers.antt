use Rattle.std.proofs.Common.{refl}
use Rattle.mc_type_table.specs.Written.{builtin_rows}
use Rattle.laws_sources.proofs.examples.types_of_programs.Goals as goal

pub returns-clause-variables : goal.returns-clause-variables
returns-clause-variables c = (refl, refl, refl, refl, refl)

pub returns-clause-circles : goal.returns-clause-circles
unfolding builtin_rows
returns-clause-circles c = (refl, refl, refl, refl, refl, refl)

pub returns-clause-regular : goal.returns-clause-regular
unfolding builtin_rows
returns-clause-regular c = (refl, refl, refl, refl, refl, refl)

pub returns-clause-tables : goal.returns-clause-tables
unfolding builtin_rows
returns-clause-tables c = (refl, refl)

pub returns-clause-hidden : goal.returns-clause-hidden
unfolding builtin_rows
returns-clause-hidden c = (refl, refl)
