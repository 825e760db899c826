-- What a table has of a clause's steps.
use Rattle.std.specs.Prelude.{List}
use Rattle.mc_program.specs.Programs.{Source}
use Rattle.mc_accepted.specs.ProperTypes.{Parameters}
use Rattle.mc_accepted.specs.Resolving.{Step}
use Rattle.mc_typecheck.specs.Walked.{ShowsAll}
use Rattle.mc_typecheck.specs.declared.table.Signatures.{Signatures}

-- the table has what the steps need, of some program
pub record AreShown (table : Signatures) (steps : List Step) : Type 0 where
  pub source : Source
  pub parameters : Parameters
  pub shows : ShowsAll source parameters table steps
